use Rattle.psa_logic.specs.Products.{IsCutProduct, IsPrimeProduct}
use Rattle.psa_logic.proofs.ListingLemmas.{listing-only}
use Rattle.psa_logic.proofs.laws.listing_is_unique.Goals as goal

pub returns-clause-cut_sets : goal.returns-clause-cut_sets
returns-clause-cut_sets c = λ f limit. listing-only (IsCutProduct f limit)

pub returns-clause-prime_implicants : goal.returns-clause-prime_implicants
returns-clause-prime_implicants c = λ f limit. listing-only (IsPrimeProduct f limit)
