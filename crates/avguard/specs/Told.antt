-- The lines of files about which a guard replied.
use Rattle.std.specs.Prelude.{ℕ, ◌≡◌, ◌||◌, Bool, false, true, if◌then◌else◌, List, [], ◌∷◌, codes, decimal}
use Rattle.std.specs.Borrow.{Bor}
use Rattle.std.specs.List.{flat_map}
use Rattle.json.specs.Token.{Token}
use Rattle.av_asks.specs.LargeAnswers.{cause_number, cause_text}
use Rattle.av_asks.specs.declared.large_answer.LargeAnswer.{LargeAnswer}
use Rattle.av_asks.specs.declared.large_answer.LargeAnswer.TheVariants.{Denied, Unscanned}
use Rattle.av_asks.specs.declared.large_answer.LargeCause.{LargeCause}
use Rattle.av_base.specs.Part.{spelt}
use Rattle.av_client.specs.declared.reply.Reply.{Reply}
use Rattle.av_client.specs.declared.reply.Reply.TheVariants.{Open, Large}
use Rattle.av_files.specs.Opened.{is_granted, is_infected_answer, opened_lines, with_opened}
use Rattle.av_files.specs.Quoted.{quoted}
use Rattle.av_json.specs.File.{named_object}
use Rattle.av_json.specs.Line.{object_line}
use Rattle.av_json.specs.Member.{number_tokens, text_tokens}
use Rattle.av_status.specs.Tally.{has_line, with_missed}
use Rattle.av_status.specs.declared.status.Status.TheVariants.{Device}
use Rattle.av_status.specs.declared.tally.Form.{Form}
use Rattle.av_status.specs.declared.tally.Form.TheVariants.{Lines, Json, ZeroEnded}
use Rattle.av_status.specs.declared.tally.Tally.{Tally}
use Rattle.av_status.specs.declared.tally.Wishes.{Wishes}
use Rattle.avguard.specs.declared.told.Told.{Told}

-- ---- a content in parts that nobody judged

-- it was denied, or let through, for a cause, with what ends the line
abbrev pub denied_text : List ℕ → LargeCause → List ℕ → List ℕ
denied_text file cause end = spelt (file ∷ codes " denied cause " ∷ decimal (cause_number cause) ∷ end ∷ [])

abbrev pub unscanned_text : List ℕ → ℕ → LargeCause → List ℕ → List ℕ
unscanned_text file generation cause end =
    spelt (file ∷ codes " unscanned generation " ∷ decimal generation
    ∷ codes " cause " ∷ decimal (cause_number cause) ∷ end ∷ [])

abbrev pub large_text : List ℕ → LargeAnswer → List ℕ → List ℕ
large_text file (Denied tag cause) end = denied_text file cause end
large_text file (Unscanned tag generation cause) end = unscanned_text file generation cause end

-- the object of its file
abbrev pub cause_members : LargeCause → List (List Token)
cause_members cause = number_tokens (codes "cause") (cause_number cause) ∷ text_tokens (codes "why") (cause_text cause) ∷ []

abbrev pub large_tokens : List ℕ → LargeAnswer → List Token
large_tokens file (Denied tag cause) = named_object file (text_tokens (codes "answer") (codes "denied") ∷ cause_members cause)
large_tokens file (Unscanned tag generation cause) =
    named_object file
    (text_tokens (codes "answer") (codes "unscanned") ∷ number_tokens (codes "generation") generation ∷ cause_members cause)

abbrev pub large_object : List ℕ → LargeAnswer → List ℕ
large_object file answer = object_line (large_tokens file answer)

-- the line of its file, in this form
abbrev pub large_line : Form → List ℕ → LargeAnswer → List ℕ
large_line Lines file answer = large_text (quoted file) answer (codes "\n")
large_line Json file answer = large_object file answer
large_line ZeroEnded file answer = large_text file answer (0 ∷ [])

-- the same, where such files have a line: none of them was granted
abbrev pub shown_large : Wishes → List ℕ → LargeAnswer → List ℕ
shown_large wishes file answer = if has_line wishes.shown true then large_line wishes.form file answer else []

-- ---- any reply

-- the line of a file by what a guard replied about it, where it has one
abbrev pub reply_line : Wishes → Bor (List ℕ) → Reply → List ℕ
reply_line wishes name (Open a) = opened_lines wishes (record { name = name; answer = a } ∷ [])
reply_line wishes name (Large a) = shown_large wishes name.now a

abbrev pub told_line : Wishes → Told → List ℕ
told_line wishes file = reply_line wishes file.name file.reply

-- the lines of files, in their order
abbrev pub told_lines : Wishes → List Told → List ℕ
told_lines wishes told = flat_map (told_line wishes) told

-- a guard's service judged the content: it was granted, or denied since a signature occurs
abbrev pub is_judged : Reply → Bool
is_judged (Open a) = is_granted a || is_infected_answer a
is_judged (Large a) = false

-- one file more: it counts as an open's, and as missed where only a content in parts can be told so
abbrev pub with_reply : Tally → Bor (List ℕ) → Reply → Tally
with_reply t name (Open a) = with_opened t (record { name = name; answer = a })
with_reply t name (Large a) = with_missed t Device

-- files, counted one after the other
abbrev pub tally_told : Tally → List Told → Tally
tally_told t [] = t
tally_told t (file ∷ told) = tally_told (with_reply t file.name file.reply) told
