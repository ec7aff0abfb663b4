-- Passes of one channel.
use Rattle.std.proofs.Common.{◌≡◌, sym, ◌∙◌}
use Rattle.atomic_table.specs.declared.badge.Badge.{Badge}
use Rattle.crossbeam_channel.specs.Claims.{Pass, IsSeatAt}
use Rattle.crossbeam_channel.specs.declared.flavors.array.Doing.{Doing}
use Rattle.crossbeam_channel.specs.declared.flavors.array.Key.{Key}
use Rattle.crossbeam_channel.specs.declared.flavors.array.Rows.{Rows}
use Rattle.av_pool.specs.Channel.{channel_of}

module _ {X V : Type 0} where
  module _ {Q M L A : Type 0} (c : Rows (Badge (Key X)) (Doing X V) Q M (Key X) L A) where
    -- two passes that sit at one channel
    pub one_channel : (p q : Pass X V) → IsSeatAt c p → IsSeatAt c q → channel_of q ≡ channel_of p
    one_channel p q a b = λ i. record { table = (b.0 ∙ sym a.0) i; key = (b.1 ∙ sym a.1) i }
