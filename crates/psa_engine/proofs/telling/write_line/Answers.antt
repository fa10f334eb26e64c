use Rattle.std.proofs.Common.{sym}
use Rattle.psa_engine.proofs.telling.write_line.Goals as goal

pub returns-in-Full : goal.returns-in-Full
returns-in-Full g c = rw c.in-Full.is (rw (sym c.format.ensures.text) c.put_all-in-Full.ensures)
