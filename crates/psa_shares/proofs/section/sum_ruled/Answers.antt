use Rattle.std.proofs.Common.{length}
use Rattle.psa_nodes.specs.Readings.{has}
use Rattle.psa_products.specs.Products.{product_of}
use Rattle.psa_shares.specs.EventShares.{HasPlaces}
use Rattle.psa_shares.proofs.EventShareLemmas.{listed-all}
use Rattle.psa_shares.proofs.section.sum_ruled.Goals as goal

pub sum_listed-requires-clause-places : goal.sum_listed-requires-clause-places
sum_listed-requires-clause-places g c =
    listed-all (λ set. has c.args.subject.now.table.now.nodes c.args.subject.now.root.0 set)
    (λ one. g.R.Rule.may c.args.rule (product_of one)) (λ one. g.R.Rule.says c.args.rule (product_of one))
    c.requires.rule (HasPlaces (length c.args.shares.now)) c.requires.places c.new-lister.result.rest c.new-lister.ensures.listing

pub returns-clause-sums : goal.returns-clause-sums
returns-clause-sums g c = λ keeps answers. (
  c.new-lister.result.rest,
  c.new-lister.ensures.listing keeps answers,
  record { totals = c.sum_listed.ensures.totals; shares = c.sum_listed.ensures.shares },
)
