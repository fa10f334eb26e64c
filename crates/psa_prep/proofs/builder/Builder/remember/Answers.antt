use Rattle.std.proofs.Common.{◌≡◌, Bool, Some, cond, subst, refl}
use Rattle.indexmap.specs.IndexMap.{get}
use Rattle.psa_prep.specs.declared.builder.Prepared.{Prepared}
use Rattle.psa_prep.specs.Nodes.{prepared_eq}
use Rattle.psa_prep.proofs.SoundLemmas.{entry-known, derived-is}
use Rattle.psa_prep.proofs.builder.Builder.remember.Goals as goal

pub returns : goal.returns
returns c = record {
  nodes = refl;
  width = refl;
  entries = λ other.
      entry-known (get prepared_eq c.insert.new.self other) (get prepared_eq c.args.self.now.memo other) c.args.known (prepared_eq c.args.subject other)
      (subst (λ (eq : Prepared → Prepared → Bool). get eq c.insert.new.self other ≡ cond (eq c.args.subject other) (Some c.args.known) (get eq c.args.self.now.memo other)) derived-is (c.in_ok-insert.ensures.updates.0 other));
}
