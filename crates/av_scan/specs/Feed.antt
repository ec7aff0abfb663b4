-- Which names come to a scan.
use Rattle.std.specs.Prelude.{ℕ, ◌≡◌, List, [], ◌∷◌, Option, None, Some, Result, Ok, Err, drop, map}
use Rattle.std.specs.Borrow.{Bor}
use Rattle.av_scan.specs.Told.{path_of}
use Rattle.av_scan.specs.declared.feed.Folders.{Folders}
use Rattle.av_scan.specs.declared.feed.Folders.TheVariants.{Entered, Refused}
use Rattle.av_scan.specs.declared.told.ScanEntry.{ScanEntry}

-- the names that are left behind so many of a list: of folders no list of files is known before
abbrev pub left_of : Folders → ℕ → List (Bor (List ℕ)) → Option (List (List ℕ))
left_of Entered next names = None
left_of Refused next names = Some (map (λ n. n.now) (drop next names))

-- The next of the names that are left, or nothing if none is.
abbrev pub IsNext : {E : Type 0} → Option (List (List ℕ)) → Option (List (List ℕ)) → Result (Option ScanEntry) E → Type 0
IsNext None new r = new ≡ None
IsNext (Some names) new (Err e) = new ≡ Some names
IsNext (Some []) new (Ok None) = new ≡ Some []
IsNext (Some []) new (Ok (Some e)) = ⊥
IsNext (Some (n ∷ names)) new (Ok None) = ⊥
IsNext (Some (n ∷ names)) new (Ok (Some e)) = (path_of e.met ≡ n) × (new ≡ Some names)
