-- The words for what is refused.
use Rattle.std.specs.Prelude.{ℕ, List, [], ◌∷◌, codes}
use Rattle.av_base.specs.Part.{spelt}
use Rattle.av_service.specs.declared.fault.ConnectFault.TheVariants as connect
use Rattle.av_sigset.specs.declared.fault.CatalogueFault.TheVariants.{OldVersion, CatalogueFull}
use Rattle.av_store.specs.declared.fault.StoreFault.TheVariants.{BadName, Exists, Full, NoStream, Hole, TooLarge, GenerationSpent}
use Rattle.av_history.specs.declared.fault.JudgeFault.{JudgeFault}
use Rattle.av_history.specs.declared.fault.JudgeFault.TheVariants as judge_fault
use Rattle.av_history.specs.declared.fault.StepFault.{StepFault}
use Rattle.av_history.specs.declared.fault.StepFault.TheVariants.{NoSuchName, NoSuchFrame, NoSuchWork, BadSet, Catalogue, Store, OpensSpent, BootSpent, Connect}

-- the word for a refused step
abbrev pub word_of : StepFault → List ℕ
word_of NoSuchName = codes "NoSuchName"
word_of NoSuchFrame = codes "NoSuchFrame"
word_of NoSuchWork = codes "NoSuchWork"
word_of BadSet = codes "BadSet"
word_of (Catalogue OldVersion) = codes "OldVersion"
word_of (Catalogue CatalogueFull) = codes "CatalogueFull"
word_of (Store BadName) = codes "BadName"
word_of (Store Exists) = codes "Exists"
word_of (Store Full) = codes "Full"
word_of (Store NoStream) = codes "NoStream"
word_of (Store Hole) = codes "Hole"
word_of (Store TooLarge) = codes "TooLarge"
word_of (Store GenerationSpent) = codes "GenerationSpent"
word_of OpensSpent = codes "OpensSpent"
word_of BootSpent = codes "BootSpent"
word_of (Connect connect.NoSignatures) = codes "NoSignatures"
word_of (Connect connect.AlreadyConnected) = codes "AlreadyConnected"

-- the word for a refused judgement
abbrev pub judge_word_of : JudgeFault → List ℕ
judge_word_of judge_fault.NoSuchName = codes "NoSuchName"
judge_word_of judge_fault.NoSignatures = codes "NoSignatures"

-- the line of a refusal
abbrev pub refused_text : List ℕ → List ℕ
refused_text word = spelt (codes "refused " ∷ word ∷ codes "\n" ∷ [])
