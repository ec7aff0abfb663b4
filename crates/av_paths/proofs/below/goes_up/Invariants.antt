use Rattle.std.proofs.Common.{◌≡◌}
use Rattle.std.specs.Path.{components_remaining, path_components}
use Rattle.av_paths.specs.Below.{has_up}
use Rattle.av_paths.proofs.below.goes_up.Given as goal

-- those that are left decide
abbrev pub invariant-components : goal.invariant-components
invariant-components l = has_up (components_remaining l.component-iterator) ≡ has_up (path_components l.fn.path)
