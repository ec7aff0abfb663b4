use Rattle.av_paths.proofs.CourseLemmas.{clean_if_each_is}
use Rattle.av_paths.proofs.course.a_clean_folder_has_clean_files.Goals as goal

pub returns : goal.returns
returns c = clean_if_each_is
