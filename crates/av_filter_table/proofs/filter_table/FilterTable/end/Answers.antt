use Rattle.std.proofs.Common.{[], ◌≡◌, sym, subst}
use Rattle.av_filter_table.specs.Chains.{essences}
use Rattle.av_filter_table.specs.FilterTable.{IsUnasked}
use Rattle.av_filter_table.proofs.TableLemmas.{no-questions, no-pended}
use Rattle.av_filter_table.proofs.filter_table.FilterTable.end.Goals as goal

pub end-requires : goal.end-requires
end-requires c = λ s. c.self.invariant.rows.free s
    (subst (λ q. IsUnasked s (essences q)) (sym (no-questions c.self.inside.boot c.self.inside.questions (subst (λ t. t.questions ≡ []) (sym c.self.view_is) c.requires.questions))) (λ n. tt))

pub end-requires-2 : goal.end-requires-2
end-requires-2 c = no-questions c.self.inside.boot c.self.inside.questions (subst (λ t. t.questions ≡ []) (sym c.self.view_is) c.requires.questions)

pub end-requires-3 : goal.end-requires-3
end-requires-3 c = no-pended c.self.inside.boot c.self.inside.pended (subst (λ t. t.pended ≡ []) (sym c.self.view_is) c.requires.pended)
