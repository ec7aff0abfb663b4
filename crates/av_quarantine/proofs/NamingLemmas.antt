-- The new path of a file while it is moved.
use Rattle.std.proofs.Common.{ℕ, ◌≡◌, List, Some, Ok, ap, ap₂, subst, ◌∙◌}
use Rattle.std.specs.Path.{path_file_name}
use Rattle.av_quarantine.specs.Naming.{IsMovedTo, IsNamed, IsNamedAt, place_of}
use Rattle.av_quarantine.specs.Steps.{ended}
use Rattle.av_quarantine.specs.declared.steps.Step.{Step}

-- a file that was moved has the path of its number
pub moved_to : (folder name old f m : List ℕ) (s : Step) (n : ℕ) (new : List ℕ) → IsNamedAt f m s new → ◌≡◌ {A = List ℕ × List ℕ} (f, m) (folder, name) → s ≡ ended (Ok n) → path_file_name old ≡ Some name → IsMovedTo folder old new
moved_to folder name old f m s n new well place end last =
    let named : IsNamed f m n new = subst (λ t. IsNamedAt f m t new) end well in
    let same_folder : f ≡ folder = ap (λ (p : List ℕ × List ℕ). p.0) place in
    let same_name : m ≡ name = ap (λ (p : List ℕ × List ℕ). p.1) place in
    record { name = name; last = last; number = n; few = named.0; place = named.1 ∙ ap₂ (λ a b. place_of a b n) same_folder same_name }
