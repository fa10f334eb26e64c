use Rattle.std.proofs.Common.{◌≡◌, ◌∙◌, ap, sym}
use Rattle.psa_outcome.specs.Loading.{loaded_analysis}
use Rattle.psa_report.proofs.WrittenLemmas.{written-as}
use Rattle.psa_shares.specs.EventShares.{EventShare}
use Rattle.psa_shares.proofs.ShareLemmas.{share-none, share-some}
use Rattle.psa_shares.proofs.section.write_event.Goals as goal

pub returns-then-share-eq0 : goal.returns-then-share-eq0
returns-then-share-eq0 g c = λ kept is.
    let subject = c.args.subject.now in
    written-as _ _ _ _ _ _ c.put_all.result c.put_all.ensures
    (share-none (loaded_analysis subject.loaded.now) subject.target.now subject.ranks.now c.requires.ranks c.args.rank kept
    c.args.share.now is (ap (λ (s : EventShare). s.count) (sym c.share.view_is) ∙ c.if-share-eq0.true))

pub returns : goal.returns
returns g c = λ kept is.
    let subject = c.args.subject.now in
    written-as _ _ _ _ _ _ c.write_line.result c.write_line.ensures
    (share-some (loaded_analysis subject.loaded.now) subject.target.now subject.ranks.now c.requires.ranks c.args.rank kept
    c.args.share.now is (λ none. c.if-share-eq0.false (ap (λ (s : EventShare). s.count) c.share.view_is ∙ none)))
