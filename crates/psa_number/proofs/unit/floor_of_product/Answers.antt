use Rattle.psa_number.proofs.UnitProductLemmas.{floor_by_halves}
use Rattle.psa_number.proofs.unit.floor_of_product.Goals as goal

pub returns : goal.returns
returns c = floor_by_halves c.args.a c.args.b
