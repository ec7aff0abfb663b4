use Rattle.av_generate.proofs.LanguageLemmas.{each_setting}
use Rattle.av_generate.proofs.laws.settings_are_of_the_language.Goals as goal

pub returns : goal.returns
returns c = each_setting
