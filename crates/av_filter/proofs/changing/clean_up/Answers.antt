use Rattle.std.proofs.Common.{◌≡◌, ℕ, Bool, true, false, length, ◌∷◌, [], Option, None, Some, if◌then◌else◌, is_some, refl, rules, sym, ap, ◌∙◌, subst}
use Rattle.av_base.specs.declared.port.Port.{Port}
use Rattle.av_filter.specs.Again.{scan_message}
use Rattle.av_filter.specs.Call.{Reacts}
use Rattle.av_filter.specs.Changing.{cleaned, cleaned_at}
use Rattle.av_filter.specs.Reaction.{only, sends}
use Rattle.av_filter.specs.declared.note.Note.TheVariants.{Quiet}
use Rattle.av_filter_table.specs.Answering.{present_bytes, present_generation}
use Rattle.av_filter_table.specs.Asking.{asks}
use Rattle.av_filter_table.specs.Table.{Table, asking, context_of, is_modified}
use Rattle.av_frame.specs.Message.{via}
use Rattle.av_frame.specs.declared.message.Body.TheVariants.{Scan}
use Rattle.av_store.specs.Store.{Store}
use Rattle.av_store.specs.declared.stream.Stream.{Stream}
use Rattle.av_filter.proofs.changing.clean_up.Goals as goal

module _ (t : Table) (v : Store) (s : ℕ) where
  -- a stream that is there
  there : (o : Option Stream) → true ≡ is_some o → cleaned t v s o ≡ cleaned_at t v s (is_modified (context_of t.contexts s)) (asking t)
  unfolding cleaned
  there None is = absurd (cc (is))
  there (Some x) is = refl

  -- it is asked about where it was written and a question can be asked
  quiet : (b : Bool) (o : Option Port) → (if b then o else None) ≡ None → cleaned_at t v s b o ≡ only t v Quiet
  unfolding cleaned_at
  quiet true None e = refl
  quiet true (Some p) e = absurd (cc (e))
  quiet false None e = refl
  quiet false (Some p) e = refl

  asked : (b : Bool) (o : Option Port) (p : Port) → (if b then o else None) ≡ Some p → cleaned_at t v s b o ≡ sends (asks t v p s) v (scan_message t v p s)
  unfolding cleaned_at
  asked true None p e = absurd (cc (e))
  asked true (Some q) p e = let same : q ≡ p = cc (e) in ap (λ k. sends (asks t v k s) v (scan_message t v k s)) same
  asked false o p e = absurd (cc (e))

pub returns-in_default : goal.returns-in_default
returns-in_default c =
    let t = c.args.table.now in
    let v = c.args.volume.now in
    let s = c.args.stream in
    let none = sym c.port_to_ask.ensures.port ∙ c.in_default.is in
    subst (Reacts c.says-in_default.result t v) (sym (there t v s _ c.if-not-is_there.ensures ∙ quiet t v s (is_modified (context_of t.contexts s)) (asking t) none))
    (record { answers = c.says-in_default.ensures.answers; messages = c.says-in_default.ensures.messages; note = c.says-in_default.ensures.note; table = refl; volume = refl })

pub returns : goal.returns
returns c =
    let t = c.args.table.now in
    let v = c.args.volume.now in
    let s = c.args.stream in
    let port = c.in-Some.port in
    let some = sym c.port_to_ask.ensures.port ∙ c.in-Some.is in
    let is : c.scan_message.result ≡ scan_message t v port s = c.scan_message.ensures ∙ ap (λ id. via port (Scan id s (present_generation v s) (length (present_bytes v s)))) c.in_ok-id.ensures.id in
    let sent : c.gives.result.messages.items ≡ c.scan_message.result ∷ [] = search rules in
    let told : c.gives.result.answers.items ≡ [] = search rules in
    subst (Reacts c.gives.result c.ask_scan.new.table v) (sym (there t v s _ c.if-not-is_there.ensures ∙ asked t v s (is_modified (context_of t.contexts s)) (asking t) port some))
    (record { answers = told; messages = sent ∙ ap (λ m. m ∷ []) is; note = c.gives.ensures.note; table = c.in_ok-id.ensures.table; volume = refl })
