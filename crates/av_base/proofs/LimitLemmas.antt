-- The ranges of single limits, of limits that are in range.
use Rattle.std.proofs.Common.{◌≤◌}
use Rattle.av_base.specs.Limits.{AreInRange}
use Rattle.av_base.specs.declared.limits.LimitValues.{LimitValues}
use Rattle.av_base.specs.declared.limits.TheConstants.{MAX_CHUNK, MAX_GENERATION, MAX_JOBS, MAX_LENGTH}

pub length_in : (v : LimitValues) → AreInRange v → (1 ≤ v.length) × (v.length ≤ MAX_LENGTH)
length_in v fit = fit.1.0

pub generation_in : (v : LimitValues) → AreInRange v → (1 ≤ v.generation) × (v.generation ≤ MAX_GENERATION)
generation_in v fit = fit.1.1.0

pub jobs_in : (v : LimitValues) → AreInRange v → (1 ≤ v.jobs) × (v.jobs ≤ MAX_JOBS)
jobs_in v fit = fit.1.1.1.1.1.0

pub chunk_in : (v : LimitValues) → AreInRange v → (1 ≤ v.chunk) × (v.chunk ≤ MAX_CHUNK)
chunk_in v fit = fit.1.1.1.1.1.1.1.0
