-- The engine of a scanning service, message by message.
use Rattle.std.proofs.Common.{ℕ, ◌≡◌, List, [], ◌∷◌, ◌++◌, true, refl, sym, ap, ◌∙◌, append_assoc}
use Rattle.std.specs.List.{AllByRecursion}
use Rattle.av_frame.specs.Message.{Letter}
use Rattle.av_match.specs.Scanning.{fitting, if_found, run}
use Rattle.av_service.specs.Conduct.{Finishes, Receives, service_step}
use Rattle.av_service.specs.Desk.{Desk}
use Rattle.av_service.specs.Sound.{LendsUnderItsVersion}
use Rattle.av_service.specs.Work.{WorkState}
use Rattle.av_sigset.specs.declared.signature.Pattern.{Pattern}
use Rattle.av_engines.specs.Serving.{Served, gone_on, finish_of, worked, heard, unserved}

-- what was sent before works come back stays in front
worked_behind : (p : ℕ → List Pattern) (d : Desk) (front back : List Letter) (ws : List WorkState)
    → worked p (record { desk = d; sent = front ++ back }) ws ≡ record { desk = (worked p (record { desk = d; sent = back }) ws).desk; sent = front ++ (worked p (record { desk = d; sent = back }) ws).sent }
worked_behind p d front back [] = refl
worked_behind p d front back (w ∷ ws) =
    let r = finish_of p d w in
    ap (λ l. worked p (record { desk = r.desk; sent = l }) ws) (append_assoc front back r.messages) ∙ worked_behind p r.desk front (back ++ r.messages) ws

-- works of one version run alike under patterns that agree on it, and leave the version
worked_alike : LendsUnderItsVersion → (p q : ℕ → List Pattern) (v : ℕ) → p v ≡ q v → (s : Served) (ws : List WorkState) → s.desk.version ≡ v → AllByRecursion (λ k. k.version ≡ v) ws
    → (worked p s ws ≡ worked q s ws) × ((worked q s ws).desk.version ≡ v)
worked_alike law p q v same s [] here all = (refl, here)
worked_alike law p q v same s (w ∷ ws) here all =
    let alike : p w.version ≡ q w.version = ap p all.0 ∙ same ∙ ap q (sym all.0) in
    let scan = run (q w.version) w.scan (fitting w.scan w.chunk) in
    let r = finish_of q s.desk w in
    let next = worked_alike law p q v same (gone_on s r) ws (law.version s.desk (Finishes w.lease scan (if_found scan)) ∙ here) all.1 in
    let finished = ap (λ ps. worked p (gone_on s (finish_of (λ n. ps) s.desk w)) ws) alike in
    (finished ∙ next.0, next.1)

under : (d : Desk) (v : ℕ) → d.version ≡ v → (ws : List WorkState) → AllByRecursion (λ k. (k.version ≡ d.version) × (d.connected ≡ true)) ws → AllByRecursion (λ k. k.version ≡ v) ws
under d v here [] all = tt
under d v here (w ∷ ws) all = (all.0.0 ∙ here, under d v here ws all.1)

-- a message is handled alike under patterns that agree on the present version, and leaves the version
pub heard_alike : LendsUnderItsVersion → (p q : ℕ → List Pattern) (d : Desk) (m : Letter) → p d.version ≡ q d.version → (heard p (unserved d) m ≡ heard q (unserved d) m) × ((heard q (unserved d) m).desk.version ≡ d.version)
heard_alike law p q d m same =
    let r = service_step d (Receives m) in
    worked_alike law p q d.version same (gone_on (unserved d) r) r.works (law.version d (Receives m)) (under d d.version refl r.works (law.works d (Receives m)))

-- what was sent before a message comes stays in front
pub heard_front : (p : ℕ → List Pattern) (d : Desk) (front back : List Letter) (m : Letter)
    → heard p (record { desk = d; sent = front ++ back }) m ≡ record { desk = (heard p (record { desk = d; sent = back }) m).desk; sent = front ++ (heard p (record { desk = d; sent = back }) m).sent }
heard_front p d front back m =
    let r = service_step d (Receives m) in
    ap (λ l. worked p (record { desk = r.desk; sent = l }) r.works) (append_assoc front back r.messages) ∙ worked_behind p r.desk front (back ++ r.messages) r.works
