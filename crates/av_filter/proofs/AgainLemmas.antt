-- A question that is asked again, or that ends.
use Rattle.std.proofs.Common.{◌≡◌, ◌&&◌, ◌++◌, Bool, true, false, List, [], Option, Some, None, if◌then◌else◌, refl, sym, ◌∙◌}
use Rattle.std.proofs.lemmas.List.{append-nil}
use Rattle.std.specs.List.{list_any}
use Rattle.av_base.specs.declared.port.Port.{Port}
use Rattle.av_filter.specs.Again.{again, again_at, ends}
use Rattle.av_filter.specs.Call.{Reacts}
use Rattle.av_filter.specs.Reaction.{Reaction}
use Rattle.av_filter.specs.declared.note.Note.TheVariants.{Quiet}
use Rattle.av_filter.specs.declared.out.Out.{Out}
use Rattle.av_filter_table.specs.Asking.{is_held}
use Rattle.av_filter_table.specs.Ports.{least_port}
use Rattle.av_filter_table.specs.Table.{Table, sequence_left}
use Rattle.av_filter_table.specs.declared.question.Question.{Question}
use Rattle.av_frame.specs.Message.{Letter}
use Rattle.av_store.specs.Store.{Store}

-- where it can't be asked again it ends
pub closed : (t : Table) (v : Store) (q : Question) (early : List Letter) (o : Option Port) → (if list_any (is_held q.id) t.pended && sequence_left t then o else None) ≡ None → again_at o t v q early ≡ ends t v q early
unfolding again_at
closed t v q early None e = refl
closed t v q early (Some port) e = go (list_any (is_held q.id) t.pended && sequence_left t) refl e
  where
    go : (b : Bool) → list_any (is_held q.id) t.pended && sequence_left t ≡ b → (if b then Some port else None) ≡ None → again_at (Some port) t v q early ≡ ends t v q early
    go true is e = absurd (cc (e))
    go false is e = rw is refl

-- the same reaction, but for what was sent before
pub record IsBehind (v : Store) (early : List Letter) (r s : Reaction) : Type 0 where
  pub answers : r.answers ≡ s.answers
  pub messages : r.messages ≡ early ++ s.messages
  pub note : r.note ≡ Quiet
  pub table : r.table ≡ s.table
  pub volume : r.volume ≡ v

either : (v : Store) (early : List Letter) (b : Bool) (r r' s s' : Reaction) → IsBehind v early r s → IsBehind v early r' s' → IsBehind v early (if b then r else r') (if b then s else s')
either v early true r r' s s' first second = first
either v early false r r' s s' first second = second

ends_behind : (t : Table) (v : Store) (q : Question) (early : List Letter) → IsBehind v early (ends t v q early) (ends t v q [])
unfolding ends
ends_behind t v q early = record { answers = refl; messages = sym (append-nil early); note = refl; table = refl; volume = refl }

pub behind : (t : Table) (v : Store) (q : Question) (early : List Letter) (o : Option Port) → IsBehind v early (again_at o t v q early) (again_at o t v q [])
unfolding again_at
behind t v q early None = ends_behind t v q early
behind t v q early (Some port) =
    either v early (list_any (is_held q.id) t.pended && sequence_left t) _ _ _ _
    (record { answers = refl; messages = refl; note = refl; table = refl; volume = refl }) (ends_behind t v q early)

-- what was given out behind what was sent before is the whole reaction
pub reacts_behind : (out : Out) (t t' : Table) (v : Store) (q : Question) (early : List Letter)
    → out.answers.items ≡ (again t v q []).answers → out.messages.items ≡ early ++ (again t v q []).messages → out.note ≡ Quiet → t' ≡ (again t v q []).table
    → Reacts out t' v (again t v q early)
reacts_behind out t t' v q early told sent quiet is =
    let b = behind t v q early (least_port t.connected) in
    record { answers = told ∙ sym b.answers; messages = sent ∙ sym b.messages; note = quiet ∙ sym b.note; table = is ∙ sym b.table; volume = sym b.volume }
