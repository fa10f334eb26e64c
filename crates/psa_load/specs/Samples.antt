-- The sample as a file that is told. This project's own.
use Rattle.std.specs.Prelude.{ℕ, [], ◌∷◌}
use Rattle.psa_outcome.specs.Causes.{sample_name}
use Rattle.psa_outcome.specs.Inputs.{Told}
use Rattle.psa_outcome.specs.SampleText.{sample_text}

-- the sample of a size, alone
abbrev pub sample_files : ℕ → Told
sample_files n = (sample_name, sample_text n) ∷ []
