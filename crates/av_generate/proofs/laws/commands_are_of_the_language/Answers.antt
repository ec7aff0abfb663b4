use Rattle.av_generate.proofs.LanguageLemmas.{each_command}
use Rattle.av_generate.proofs.laws.commands_are_of_the_language.Goals as goal

pub returns : goal.returns
returns c = each_command
