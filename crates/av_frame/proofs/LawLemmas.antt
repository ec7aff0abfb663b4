-- The laws of the grammar of frames.
use Rattle.std.proofs.Common.{◌≡◌, List, [], ◌∷◌, ◌++◌, Result, Ok, sym, ◌∙◌, ap, subst, append-nil, append_assoc}
use Rattle.std.specs.List.{flat_map, AllByRecursion}
use Rattle.std.proofs.lemmas.Grind.{flat_map-append}
use Rattle.av_frame.specs.Message.{IsLetter, Letter}
use Rattle.av_frame.specs.declared.fault.FrameFault.{FrameFault}
use Rattle.av_frame.specs.Spelling.{frame}
use Rattle.av_frame.specs.Reading.{decoded}
use Rattle.av_frame.specs.Frames.{AreFrames, frames_of}
use Rattle.av_frame.specs.Laws.{BeginsWithOneFrame, FaultStays, FramesGoOn, HasOneSpelling, IsReadBack, NoFrameBeginsAnother, ReadsSpellings, SpellsOneList, SpellsOneMessage}
use Rattle.av_frame.proofs.SpellingLemmas.{decoded-spelling}
use Rattle.av_frame.proofs.ReadingLemmas.{decoded_spells}
use Rattle.av_frame.proofs.FrontLemmas.{front_of-more}
use Rattle.av_frame.proofs.FramesLemmas.{frames_are, are_frames, frames_part}

pub is_read_back : IsReadBack
is_read_back m fits = decoded-spelling m fits

pub reads_spellings : ReadsSpellings
reads_spellings body bytes m = (decoded_spells body m bytes, λ spells. ap decoded spells.1 ∙ decoded-spelling m spells.0)

pub has_one_spelling : HasOneSpelling
has_one_spelling m one other first second = first.1 ∙ sym second.1

same_ok : (m n : Letter) → ◌≡◌ {A = Result Letter FrameFault} (Ok m) (Ok n) → m ≡ n
same_ok m n e = cc

pub spells_one_message : SpellsOneMessage
spells_one_message body one other first second =
    same_ok one other (sym (decoded-spelling one first.0) ∙ ap decoded (sym first.1 ∙ second.1) ∙ decoded-spelling other second.0)

pub begins_with_one_frame : BeginsWithOneFrame
begins_with_one_frame m n x y fits others e = frames_part m n x y fits others e

pub no_frame_begins_another : NoFrameBeginsAnother
no_frame_begins_another m n more fits others e = frames_part m n more [] fits others (sym e ∙ sym (append-nil (frame n)))

pub spells_one_list : SpellsOneList
spells_one_list bytes fits frames = (frames_are bytes frames, λ e. subst (AreFrames bytes) e (are_frames bytes fits))

pub fault_stays : FaultStays
fault_stays rest more f ends = front_of-more rest more f ends

all_more : (xs ys : List Letter) → AllByRecursion IsLetter xs → AllByRecursion IsLetter ys → AllByRecursion IsLetter (xs ++ ys)
all_more [] ys first second = second
all_more (x ∷ xs) ys first second = (first.0, all_more xs ys first.1 second)

pub frames_go_on : FramesGoOn
frames_go_on taken rest fits bytes =
    let others = are_frames rest bytes in
    let frames = frames_of rest in
    frames_are (flat_map frame taken ++ rest) _ (record {
      whole =
          ap (λ b. flat_map frame taken ++ b) others.whole
          ∙ sym (append_assoc (flat_map frame taken) (flat_map frame frames.messages) frames.rest)
          ∙ ap (λ b. b ++ frames.rest) (sym (flat_map-append frame taken frames.messages));
      in_range = all_more taken frames.messages fits others.in_range;
      ends = others.ends;
    })
