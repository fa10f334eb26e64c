use Rattle.std.proofs.Common.{◌≡◌, ◌+◌, ℕ, true, List, sym, subst}
use Rattle.psa_logic.specs.Sets.{Has}
use Rattle.psa_logic.specs.Products.{IsListing}
use Rattle.psa_nodes.specs.Readings.{has}
use Rattle.psa_products.specs.Products.{product_of}
use Rattle.psa_products.specs.Walks.{to_come}
use Rattle.psa_products.proofs.PassLemmas.{passes-sound, listing}
use Rattle.psa_products.proofs.KeptLemmas.{answered-from, callable-from, kept-listing}
use Rattle.psa_products.proofs.lister.Lister.new.Goals as goal

pub invariant_of-result : goal.invariant_of-result
invariant_of-result g c =
    let ns = c.args.table.now.nodes in (
      answered-from (λ set. g.R.Rule.may c.args.rule (product_of set)) (λ set. g.R.Rule.says c.args.rule (product_of set)) (to_come c.new-walk.result)
          (λ set m. c.requires.rule set
          (passes-sound ns c.new-walk.ensures.table.fit c.args.root.0 c.requires.root (c.args.limit + 1) 0 set
          (subst (λ (sets : List (List ℕ)). Has sets set) c.new-walk.ensures.to_come m)).is_member),
      tt,
    )

pub invariant_of-result-2 : goal.invariant_of-result-2
invariant_of-result-2 g c =
    let ns = c.args.table.now.nodes in (
      c.new-walk.ensures.walk,
      callable-from (λ set. g.R.Rule.may c.args.rule (product_of set)) (λ set. g.R.Rule.says c.args.rule (product_of set)) (to_come c.new-walk.result)
          (λ set m. c.requires.rule set
          (passes-sound ns c.new-walk.ensures.table.fit c.args.root.0 c.requires.root (c.args.limit + 1) 0 set
          (subst (λ (sets : List (List ℕ)). Has sets set) c.new-walk.ensures.to_come m)).is_member),
    )

pub returns : goal.returns
returns g c = record {
  listing = λ keeps answers.
      let ns = c.args.table.now.nodes in
      kept-listing (λ set. g.R.Rule.says c.args.rule (product_of set)) (λ set. has ns c.args.root.0 set ≡ true) (to_come c.new-walk.result) _ keeps
      (subst (λ (sets : List (List ℕ)). IsListing (λ set. has ns c.args.root.0 set ≡ true) sets) (sym c.new-walk.ensures.to_come)
      (listing ns c.new-walk.ensures.table.fit c.args.root.0 c.requires.root c.args.limit c.requires.within))
      answers;
}
