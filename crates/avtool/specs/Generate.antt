-- How a random script is drawn.
use Rattle.std.specs.Prelude.{Bool, if◌then◌else◌}
use Rattle.av_generate.specs.declared.profile.Profile.{Profile}
use Rattle.av_generate.specs.declared.profile.Profile.TheVariants.{Deep, Uniform}

-- each command as often as any other, or in spells
abbrev pub profile_of : Bool → Profile
profile_of is_uniform = if is_uniform then Uniform else Deep
