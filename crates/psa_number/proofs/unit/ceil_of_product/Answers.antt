use Rattle.psa_number.proofs.UnitProductLemmas.{ceil_by_halves}
use Rattle.psa_number.proofs.unit.ceil_of_product.Goals as goal

pub returns : goal.returns
returns c = cc (ceil_by_halves c.args.a c.args.b)
