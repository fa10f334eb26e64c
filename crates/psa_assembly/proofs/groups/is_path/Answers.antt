use Rattle.psa_assembly.proofs.DottedNames.{dotted, undotted}
use Rattle.psa_assembly.proofs.groups.is_path.Goals as goal

pub returns-then-byte-eq46 : goal.returns-then-byte-eq46
returns-then-byte-eq46 c =
    dotted c.args.name.now c.as_bytes-byte-items.result.now c.loop-byte.byte-index _ c.as_bytes-byte-items.ensures c.loop-byte-test.true c.if-byte-eq46.true

pub returns : goal.returns
returns c =
    undotted c.args.name.now c.as_bytes-byte-items.result.now c.loop-byte.byte-index c.as_bytes-byte-items.ensures c.loop-byte-test.false c.loop-byte.invariant
