-- The paths of containers that are kept as steps.
use Rattle.std.proofs.Common.{◌≡◌, ◌≤◌, ◌<◌, ◌+◌, ◌-◌, ◌==◌, ◌^◌, inl, inr, ℕ, zero, suc, Bool, true, false, cond, List, [], ◌∷◌, ◌++◌, length, slice_get, Some, None, refl, sym, ap, ◌∙◌, subst, arith, length-append, eqb-true, eq-eqb}
use Rattle.std.proofs.lemmas.Bool.{and_parts, and_from, false≢true}
use Rattle.std.proofs.lemmas.Option.{slice_get-get_or, slice_get_within}
use Rattle.std.proofs.lemmas.Slice.Eq.{bytes_eq-Decides}
use Rattle.std.proofs.lemmas.Iterator.Adapters.{position_from-zero}
use Rattle.std.specs.List.{IsDistinct, AllByRecursion, list_any, position}
use Rattle.std.specs.Str.{bytes_eq}
use Rattle.psa_spaces.specs.declared.containers.Step.{Step}
use Rattle.psa_spaces.specs.Paths.{Path, path_at, IsPath, IsAround, AreContainers, paths_from, paths_of, same_step, AreSteps}
use Rattle.psa_spaces.proofs.ListLemmas.{at-front, at-end, back-cases, stands, more-not-nil, last-same, first-at, first-none}

-- ---- steps that all differ

all-at : {A : Type 0} (P : A → Type 0) (xs : List A) (i : ℕ) (x : A) → AllByRecursion P xs → slice_get xs i ≡ Some x → P x
all-at P [] i x h at = absurd (cc)
all-at P (y ∷ ys) zero x h at = let same : y ≡ x = cc in subst P same h.0
all-at P (y ∷ ys) (suc i) x h at = all-at P ys i x h.1 at

pub step-same : (one other : Step) → one.within ≡ other.within → one.name.now ≡ other.name.now → same_step one other ≡ true
step-same one other a b = and_from _ _ (eq-eqb one.within other.within a) ((bytes_eq-Decides one.name.now other.name.now).1 b)

pub step-exact : (one other : Step) → same_step one other ≡ true → (one.within ≡ other.within) × (one.name.now ≡ other.name.now)
step-exact one other h =
    let p = and_parts (one.within == other.within) (bytes_eq one.name.now other.name.now) h in
    (eqb-true one.within other.within p.0, (bytes_eq-Decides one.name.now other.name.now).0 p.1)

some-same : {A : Type 0} (x y : A) → Some x ≡ Some y → x ≡ y
some-same x y h = cc

unlike : (k one other : Step) → k ≡ one → one.within ≡ other.within → one.name.now ≡ other.name.now → same_step k other ≡ false → ⊥
unlike k one other same a b h =
    false≢true (sym h ∙ step-same k other (ap (λ (s : Step). s.within) same ∙ a) (ap (λ (s : Step). s.name.now) same ∙ b))

pub steps-apart : (steps : List Step) → IsDistinct same_step steps → (i j : ℕ) (one other : Step) → slice_get steps i ≡ Some one → slice_get steps j ≡ Some other → one.within ≡ other.within → one.name.now ≡ other.name.now → i ≡ j
unfolding IsDistinct
steps-apart [] h i j one other a b w n = absurd (cc)
steps-apart (k ∷ steps) h zero zero one other a b w n = refl
steps-apart (k ∷ steps) h zero (suc j) one other a b w n =
    absurd (unlike k one other (some-same k one a) w n (all-at (λ y. same_step k y ≡ false) steps j other h.0 b))
steps-apart (k ∷ steps) h (suc i) zero one other a b w n =
    absurd (unlike k other one (some-same k other b) (sym w) (sym n) (all-at (λ y. same_step k y ≡ false) steps i one h.0 a))
steps-apart (k ∷ steps) h (suc i) (suc j) one other a b w n = ap suc (steps-apart steps h.1 i j one other a b w n)

-- ---- the paths of steps

pub paths-push : (paths : List Path) (steps : List Step) (step : Step) → paths_from paths (steps ++ step ∷ []) ≡ paths_from paths steps ++ (path_at (paths_from paths steps) step.within ++ step.name.now ∷ []) ∷ []
paths-push paths [] step = refl
paths-push paths (one ∷ steps) step = paths-push (paths ++ (path_at paths one.within ++ one.name.now ∷ []) ∷ []) steps step

pub length-paths : (paths : List Path) (steps : List Step) → length (paths_from paths steps) ≡ length paths + length steps
length-paths paths [] = omega arith
length-paths paths (one ∷ steps) =
    let more = length-paths (paths ++ (path_at paths one.within ++ one.name.now ∷ []) ∷ []) steps in
    let longer = length-append paths ((path_at paths one.within ++ one.name.now ∷ []) ∷ []) in
    omega (arith, more, longer)

pub paths-kept : (paths : List Path) (steps : List Step) (i : ℕ) (path : Path) → IsPath paths i path → IsPath (paths_from paths steps) i path
paths-kept paths [] i path h = h
paths-kept paths (one ∷ steps) i path h =
    paths-kept (paths ++ (path_at paths one.within ++ one.name.now ∷ []) ∷ []) steps i path (at-front paths ((path_at paths one.within ++ one.name.now ∷ []) ∷ []) i path h)

pub path-stands : (paths : List Path) (i : ℕ) → i < length paths → IsPath paths i (path_at paths i)
path-stands paths i low = slice_get-get_or paths i [] low

pub path-is : (paths : List Path) (i : ℕ) (path : Path) → IsPath paths i path → path_at paths i ≡ path
path-is [] i path h = absurd (cc)
path-is (p ∷ paths) zero path h = some-same p path h
path-is (p ∷ paths) (suc i) path h = path-is paths i path h

path-kept : (paths : List Path) (steps : List Step) (i : ℕ) → i < length paths → path_at (paths_from paths steps) i ≡ path_at paths i
path-kept paths steps i low =
    path-is (paths_from paths steps) i (path_at paths i) (paths-kept paths steps i (path_at paths i) (path-stands paths i low))

each-path : (paths : List Path) (steps : List Step) (i n : ℕ) (step : Step) → slice_get steps i ≡ Some step → n ≡ length paths + i → step.within < n
    → ((j : ℕ) (s : Step) → slice_get steps j ≡ Some s → s.within < length paths + j)
    → IsPath (paths_from paths steps) n (path_at (paths_from paths steps) step.within ++ step.name.now ∷ [])
each-path paths [] i n step at is low all = absurd (cc)
each-path paths (one ∷ steps) zero n step at is low all =
    let same : one ≡ step = some-same one step at in
    let here : n ≡ length paths = omega (arith, is) in
    let new = path_at paths one.within ++ one.name.now ∷ [] in
    let low-one : one.within < length paths = omega (arith, all 0 one refl) in
    let kept = path-kept paths (one ∷ steps) one.within low-one in
    let end = paths-kept (paths ++ new ∷ []) steps (length paths) new (at-end paths new) in
    subst (λ (s : Step). IsPath (paths_from paths (one ∷ steps)) n (path_at (paths_from paths (one ∷ steps)) s.within ++ s.name.now ∷ [])) same
    (subst (λ (m : ℕ). IsPath (paths_from paths (one ∷ steps)) m (path_at (paths_from paths (one ∷ steps)) one.within ++ one.name.now ∷ [])) (sym here)
    (subst (λ (p : Path). IsPath (paths_from paths (one ∷ steps)) (length paths) (p ++ one.name.now ∷ [])) (sym kept) end))
each-path paths (one ∷ steps) (suc i) n step at is low all =
    let new = path_at paths one.within ++ one.name.now ∷ [] in
    let longer : length (paths ++ new ∷ []) ≡ suc (length paths) = (let l = length-append paths (new ∷ []) in omega (arith, l)) in
    each-path (paths ++ new ∷ []) steps i n step at (omega (arith, is, longer)) low (λ j s g. omega (arith, longer, all (suc j) s g))

-- a step has the number after its place
pub steps-path : (steps : List Step) → AreSteps steps → (i : ℕ) (step : Step) → slice_get steps i ≡ Some step → IsPath (paths_of steps) (suc i) (path_at (paths_of steps) step.within ++ step.name.now ∷ [])
steps-path steps are i step at =
    each-path ([] ∷ []) steps i (suc i) step at (omega arith) (omega (arith, are.enclosed i step at)) (λ j s g. omega (arith, are.enclosed j s g))

pub root-path : (steps : List Step) → IsPath (paths_of steps) 0 []
root-path steps = paths-kept ([] ∷ []) steps 0 [] refl

pub within-stands : (steps : List Step) → AreSteps steps → (i : ℕ) (step : Step) → slice_get steps i ≡ Some step → IsPath (paths_of steps) step.within (path_at (paths_of steps) step.within)
within-stands steps are i step at =
    let low = slice_get_within steps i step at in
    let size = length-paths ([] ∷ []) steps in
    path-stands (paths_of steps) step.within (omega (arith, low, size, are.enclosed i step at))

-- a number is that of no container, or that of a step
pub data NumberCase (steps : List Step) (number : ℕ) (path : Path) : Type 0 where
  at_root : number ≡ 0 → path ≡ [] → NumberCase steps number path
  at_step : (i : ℕ) (its : Step) → number ≡ suc i → slice_get steps i ≡ Some its
      → path ≡ path_at (paths_of steps) its.within ++ its.name.now ∷ [] → NumberCase steps number path

pub number-cases : (steps : List Step) → AreSteps steps → (number : ℕ) (path : Path) → IsPath (paths_of steps) number path → NumberCase steps number path
number-cases steps are zero path h = at_root refl (some-same path [] (sym h ∙ root-path steps))
number-cases steps are (suc i) path h =
    let low = slice_get_within (paths_of steps) (suc i) path h in
    let size = length-paths ([] ∷ []) steps in
    let its = stands steps i (omega (arith, low, size)) in
    at_step i its.0 refl its.1 (some-same path _ (sym h ∙ steps-path steps are i its.0 its.1))

length-more : (path : Path) (name : List ℕ) → length (path ++ name ∷ []) ≡ suc (length path)
length-more path name = (let l = length-append path (name ∷ []) in omega (arith, l))

apart-cases : (steps : List Step) → AreSteps steps → (one other : ℕ) (path : Path)
    → ((less more : ℕ) (p : Path) → length p < length path → IsPath (paths_of steps) less p → IsPath (paths_of steps) more p → less ≡ more)
    → NumberCase steps one path → NumberCase steps other path → one ≡ other
apart-cases steps are one other path below (at_root x e) (at_root y f) = x ∙ sym y
apart-cases steps are one other path below (at_root x e) (at_step j t y there f) = absurd (more-not-nil (path_at (paths_of steps) t.within) t.name.now (sym f ∙ e))
apart-cases steps are one other path below (at_step i s x here e) (at_root y f) = absurd (more-not-nil (path_at (paths_of steps) s.within) s.name.now (sym e ∙ f))
apart-cases steps are one other path below (at_step i s x here e) (at_step j t y there f) =
    let same = last-same (path_at (paths_of steps) s.within) (path_at (paths_of steps) t.within) s.name.now t.name.now (sym e ∙ f) in
    let long = length-more (path_at (paths_of steps) s.within) s.name.now in
    let size = ap length e in
    let around = below s.within t.within (path_at (paths_of steps) s.within) (omega (arith, long, size)) (within-stands steps are i s here)
    (subst (λ (p : Path). IsPath (paths_of steps) t.within p) (sym same.0) (within-stands steps are j t there)) in
    x ∙ ap suc (are.apart i j s t here there around same.1) ∙ sym y

paths-apart : (steps : List Step) → AreSteps steps → (n : ℕ) (one other : ℕ) (path : Path) → length path ≤ n → IsPath (paths_of steps) one path → IsPath (paths_of steps) other path → one ≡ other
paths-apart steps are zero one other path short a b =
    apart-cases steps are one other path (λ less more p shorter c d. absurd (omega (arith, shorter, short)))
    (number-cases steps are one path a) (number-cases steps are other path b)
paths-apart steps are (suc n) one other path short a b =
    apart-cases steps are one other path (λ less more p shorter c d. paths-apart steps are n less more p (omega (arith, shorter, short)) c d)
    (number-cases steps are one path a) (number-cases steps are other path b)

pub are-containers : (steps : List Step) → AreSteps steps → AreContainers (paths_of steps)
are-containers steps are = record {
  none = root-path steps;
  apart = λ one other path a b. paths-apart steps are (length path) one other path (omega arith) a b;
  nested = λ number path name h. by path name (number-cases steps are number (path ++ name ∷ []) h);
}
  where
    by : {number : ℕ} (path : Path) (name : List ℕ) → NumberCase steps number (path ++ name ∷ []) → (outer : ℕ) × IsPath (paths_of steps) outer path
    by path name (at_root x e) = absurd (more-not-nil path name e)
    by path name (at_step i s x here e) =
        (s.within, subst (λ (p : Path). IsPath (paths_of steps) s.within p) (sym (last-same path (path_at (paths_of steps) s.within) name s.name.now e).0) (within-stands steps are i s here))

-- ---- a container is entered

pub steps-entered : (old new : List Step) (step : Step) → AreSteps old → step.within < length (paths_of old) → length old < 4294967295 → new ≡ cond (list_any (same_step step) old) old (old ++ step ∷ []) → IsDistinct same_step new → AreSteps new
steps-entered old new step are low few is distinct = record {
  enclosed = by (list_any (same_step step) old) is;
  apart = steps-apart new distinct;
  few = size (list_any (same_step step) old) is;
}
  where
    by : (b : Bool) → new ≡ cond b old (old ++ step ∷ []) → (i : ℕ) (s : Step) → slice_get new i ≡ Some s → s.within ≤ i
    by true e i s at = are.enclosed i s (ap (λ (l : List Step). slice_get l i) (sym e) ∙ at)
    by false e i s at =
        (let long = length-paths ([] ∷ []) old in
        elim (back-cases old step s i (ap (λ (l : List Step). slice_get l i) (sym e) ∙ at)) [ inl a ↦ are.enclosed i s a | inr b ↦ (let w = ap (λ (t : Step). t.within) b.1 in omega (arith, long, w, b.0)) ])

    size : (b : Bool) → new ≡ cond b old (old ++ step ∷ []) → length new < 2 ^ 32
    size true e = (let l = ap length e in omega (arith, l, are.few))
    size false e = (let l = ap length e in let m = length-append old (step ∷ []) in omega (arith, l, m))

pub entered-kept : (old new : List Step) (step : Step) (b : Bool) → new ≡ cond b old (old ++ step ∷ []) → (number : ℕ) (path : Path) → IsPath (paths_of old) number path → IsPath (paths_of new) number path
entered-kept old new step true e number path h = subst (λ (l : List Step). IsPath (paths_of l) number path) (sym e) h
entered-kept old new step false e number path h =
    subst (λ (l : List Step). IsPath (paths_of l) number path) (sym e)
    (subst (λ (l : List Path). IsPath l number path) (sym (paths-push ([] ∷ []) old step))
    (at-front (paths_of old) ((path_at (paths_of old) step.within ++ step.name.now ∷ []) ∷ []) number path h))

pub entered-path : (old new : List Step) (step k : Step) (b : Bool) (i : ℕ) → AreSteps new → step.within < length (paths_of old) → new ≡ cond b old (old ++ step ∷ []) → slice_get new i ≡ Some k → same_step step k ≡ true → IsPath (paths_of new) (i + 1) (path_at (paths_of old) step.within ++ step.name.now ∷ [])
entered-path old new step k b i are low e at same =
    let exact = step-exact step k same in
    let next : i + 1 ≡ suc i = omega arith in
    let around = path-is (paths_of new) step.within (path_at (paths_of old) step.within) (entered-kept old new step b e step.within (path_at (paths_of old) step.within) (path-stands (paths_of old) step.within low)) in
    let path : path_at (paths_of new) k.within ++ k.name.now ∷ [] ≡ path_at (paths_of old) step.within ++ step.name.now ∷ [] =
    ap (λ (w : ℕ). path_at (paths_of new) w ++ k.name.now ∷ []) (sym exact.0) ∙ ap (λ (p : Path). p ++ k.name.now ∷ []) around ∙ ap (λ (n : List ℕ). path_at (paths_of old) step.within ++ n ∷ []) (sym exact.1) in
    ap (slice_get (paths_of new)) next ∙ steps-path new are i k at ∙ ap (λ (p : Path). Some p) path

-- ---- a container is searched

pub found-path : (steps : List Step) (step : Step) (i : ℕ) → AreSteps steps → Some i ≡ position (same_step step) steps → IsPath (paths_of steps) (i + 1) (path_at (paths_of steps) step.within ++ step.name.now ∷ [])
found-path steps step i are h =
    let f = first-at (same_step step) 0 steps i (sym (position_from-zero (same_step step) steps) ∙ sym h) in
    let none : i - 0 ≡ i = omega arith in
    let at : slice_get steps i ≡ Some f.1.0 = ap (slice_get steps) (sym none) ∙ f.1.1 in
    let exact = step-exact step f.1.0 f.1.2 in
    let next : i + 1 ≡ suc i = omega arith in
    let path : path_at (paths_of steps) f.1.0.within ++ f.1.0.name.now ∷ [] ≡ path_at (paths_of steps) step.within ++ step.name.now ∷ [] =
    ap (λ (w : ℕ). path_at (paths_of steps) w ++ f.1.0.name.now ∷ []) (sym exact.0) ∙ ap (λ (n : List ℕ). path_at (paths_of steps) step.within ++ n ∷ []) (sym exact.1) in
    ap (slice_get (paths_of steps)) next ∙ steps-path steps are i f.1.0 at ∙ ap (λ (p : Path). Some p) path

pub absent-path : (steps : List Step) (step : Step) → AreSteps steps → step.within < length (paths_of steps) → None ≡ position (same_step step) steps → (number : ℕ) → IsPath (paths_of steps) number (path_at (paths_of steps) step.within ++ step.name.now ∷ []) → ⊥
absent-path steps step are low h number at = by (number-cases steps are number _ at)
  where
    by : NumberCase steps number (path_at (paths_of steps) step.within ++ step.name.now ∷ []) → ⊥
    by (at_root x e) = more-not-nil _ _ e
    by (at_step i s x here e) =
        (let same = last-same (path_at (paths_of steps) step.within) (path_at (paths_of steps) s.within) step.name.now s.name.now e in
        let around = (are-containers steps are).apart step.within s.within (path_at (paths_of steps) step.within) (path-stands (paths_of steps) step.within low)
        (subst (λ (p : Path). IsPath (paths_of steps) s.within p) (sym same.0) (within-stands steps are i s here)) in
        false≢true (sym (first-none (same_step step) 0 steps (sym (position_from-zero (same_step step) steps) ∙ sym h) i s here) ∙ step-same step s around same.1))

pub is-around : (steps : List Step) → AreSteps steps → (number i : ℕ) (step : Step) → number ≡ suc i → slice_get steps i ≡ Some step → IsAround (paths_of steps) number step.within
is-around steps are number i step is at = record {
  name = step.name.now;
  before = omega (arith, are.enclosed i step at);
  path = ap (path_at (paths_of steps)) is ∙ path-is (paths_of steps) (suc i) _ (steps-path steps are i step at);
}

-- a number after the first has a step
pub no-step : (steps : List Step) (number : ℕ) → number < length (paths_of steps) → 0 < number → None ≡ slice_get steps (number - 1) → ⊥
no-step steps number low some none =
    let size = length-paths ([] ∷ []) steps in
    let its = stands steps (number - 1) (omega (arith, low, size)) in
    let bad : None ≡ Some its.0 = none ∙ its.1 in
    cc
