use Rattle.std.proofs.Common.{◌≡◌, ◌-◌, Err, Ok, [], ◌∷◌, length, take, drop, sym, ◌∙◌, ap, refl, subst, arith}
use Rattle.std.proofs.lemmas.List.{take_rest}
use Rattle.av_asks.specs.Speaking.{IsTurn, Speaking, front_of, said_by, told_saying}
use Rattle.av_asks.proofs.ContentLemmas.{call_fault, call_told, empty_waits, front_fails, front_tells, front_waits, same_fault}
use Rattle.av_asks.proofs.client_reader.ClientReader.hear_front.Goals as goal

pub invariant_of-self-in-Ok : goal.invariant_of-self-in-Ok
invariant_of-self-in-Ok c = empty_waits c.emptied.result.items c.emptied.ensures c.in-Ok.ensures.counted

pub invariant_of-self-in-Err-Fault : goal.invariant_of-self-in-Err-Fault
invariant_of-self-in-Err-Fault c = empty_waits c.clear.new.self.items c.clear.ensures.items c.self.invariant.2

pub invariant_of-self-in-Err : goal.invariant_of-self-in-Err
invariant_of-self-in-Err c = empty_waits c.clear-in-Err.new.self.items c.clear-in-Err.ensures.items c.self.invariant.2

pub returns-in-Ok-None-clause-heard : goal.returns-in-Ok-None-clause-heard
returns-in-Ok-None-clause-heard c =
    let s : Speaking = record { front = c.self.inside.front.items; content = c.self.inside.content; fault = c.self.inside.fault } in
    let all = c.extend_from_slice.new.self.items in
    let told = front_waits all s (sym (c.in-Ok-None.is ∙ ap Ok c.in-Ok-None.field-0-is) ∙ c.read_front.ensures.exact ∙ ap front_of c.deref-2.ensures.value) in
    call_told s _ (record s { front = all }) c.args.piece.now c.deref.result.now c.extend_from_slice.new.self.items all c.len-before.result c.wanted.result c.saturating_sub.result c.max.result c.min-taken.result []
    c.self.view_is c.requires.well c.requires.front c.self.invariant.0 c.deref.ensures.value (omega (arith, c.len-before.ensures, c.deref.ensures.len, ap length c.deref.ensures.value)) c.wanted.ensures c.saturating_sub.ensures c.max.ensures c.min-taken.ensures c.requires.some c.in_ok-extend_from_slice.ensures.items
    refl told

pub returns-in-Ok-clause-heard : goal.returns-in-Ok-clause-heard
returns-in-Ok-clause-heard c =
    let s : Speaking = record { front = c.self.inside.front.items; content = c.self.inside.content; fault = c.self.inside.fault } in
    let all = c.extend_from_slice.new.self.items in
    let k = c.in-Ok-Some.kind in
    let size = c.in-Ok-Some.size in
    let new : Speaking = record s { front = []; content = c.in-Ok.content } in
    let d = c.deref-in-Ok-Some.result.now in
    let exact : said_by k size (take (length d - 4) (drop 4 d)) s.content ≡ Ok (told_saying c.in-Ok.told, c.in-Ok.content) = c.in-Ok.ensures.exact in
    let said = ap (λ b. said_by k size (drop 4 b) s.content) (sym c.deref-in-Ok-Some.ensures.value) ∙ ap (λ b. said_by k size b s.content) (sym (take_rest d 4)) ∙ exact in
    let told = front_tells all s k size _ (sym (c.in-Ok-Some.is ∙ ap Ok c.in-Ok-Some.field-0-is) ∙ c.read_front.ensures.exact ∙ ap front_of c.deref-2.ensures.value) said in
    call_told s _ new c.args.piece.now c.deref.result.now c.extend_from_slice.new.self.items c.emptied.result.items c.len-before.result c.wanted.result c.saturating_sub.result c.max.result c.min-taken.result (told_saying c.in-Ok.told ∷ [])
    c.self.view_is c.requires.well c.requires.front c.self.invariant.0 c.deref.ensures.value (omega (arith, c.len-before.ensures, c.deref.ensures.len, ap length c.deref.ensures.value)) c.wanted.ensures c.saturating_sub.ensures c.max.ensures c.min-taken.ensures c.requires.some c.in_ok-extend_from_slice.ensures.items
    c.emptied.ensures told

pub returns-in-Err-Fault-clause-fault : goal.returns-in-Err-Fault-clause-fault
returns-in-Err-Fault-clause-fault c = λ f e.
    let s : Speaking = record { front = c.self.inside.front.items; content = c.self.inside.content; fault = c.self.inside.fault } in
    let all = c.extend_from_slice.new.self.items in
    let k = c.in-Ok-Some.kind in
    let size = c.in-Ok-Some.size in
    let d = c.deref-in-Ok-Some.result.now in
    let body = take (length d - 4) (drop 4 d) in
    let exact : said_by k size body s.content ≡ Err c.in-Err-Fault.fault = subst (λ r. IsTurn (Err r) (said_by k size body s.content)) c.in-Err-Fault.field-0-is c.in-Err-Fault.ensures.exact in
    let said = ap (λ b. said_by k size (drop 4 b) s.content) (sym c.deref-in-Ok-Some.ensures.value) ∙ ap (λ b. said_by k size b s.content) (sym (take_rest d 4)) ∙ exact in
    let told = front_tells all s k size _ (sym (c.in-Ok-Some.is ∙ ap Ok c.in-Ok-Some.field-0-is) ∙ c.read_front.ensures.exact ∙ ap front_of c.deref-2.ensures.value) said in
    call_fault s _ c.args.piece.now c.deref.result.now c.extend_from_slice.new.self.items c.clear.new.self.items c.len-before.result c.wanted.result c.saturating_sub.result c.max.result c.min-taken.result c.in-Err-Fault.fault f
    c.self.view_is c.requires.well c.requires.front c.self.invariant.0 c.deref.ensures.value (omega (arith, c.len-before.ensures, c.deref.ensures.len, ap length c.deref.ensures.value)) c.wanted.ensures c.saturating_sub.ensures c.max.ensures c.min-taken.ensures c.requires.some c.in_ok-extend_from_slice.ensures.items
    c.clear.ensures.items told (same_fault c.in-Err-Fault.fault f e)

pub returns-in-Err-clause-fault : goal.returns-in-Err-clause-fault
returns-in-Err-clause-fault c = λ f e.
    let s : Speaking = record { front = c.self.inside.front.items; content = c.self.inside.content; fault = c.self.inside.fault } in
    let all = c.extend_from_slice.new.self.items in
    let told = front_fails all s c.in-Err.fault (sym c.in-Err.is ∙ c.read_front.ensures.exact ∙ ap front_of c.deref-2.ensures.value) in
    call_fault s _ c.args.piece.now c.deref.result.now c.extend_from_slice.new.self.items c.clear-in-Err.new.self.items c.len-before.result c.wanted.result c.saturating_sub.result c.max.result c.min-taken.result c.in-Err.fault f
    c.self.view_is c.requires.well c.requires.front c.self.invariant.0 c.deref.ensures.value (omega (arith, c.len-before.ensures, c.deref.ensures.len, ap length c.deref.ensures.value)) c.wanted.ensures c.saturating_sub.ensures c.max.ensures c.min-taken.ensures c.requires.some c.in_ok-extend_from_slice.ensures.items
    c.clear-in-Err.ensures.items told (same_fault c.in-Err.fault f e)
