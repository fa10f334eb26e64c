-- What the machine reads: the items so far, and where in the next. By both directions of the grammar.
use Rattle.std.specs.Prelude.{◌≡◌, ◌≢◌, ℕ, ◌+◌, Bool, true, false, if◌then◌else◌, ◌==◌, List, [], ◌∷◌, ◌++◌, Option, Some, None, count_by}
use Rattle.std.specs.List.{fold}
use Rattle.std.proofs.Common.{refl, sym, ◌∙◌, ap, subst, arith, append_assoc, append-nil}
use Rattle.psa_text.specs.declared.scanner.item.Item.{Item}
use Rattle.psa_text.specs.TextBytes.{line_after}
use Rattle.psa_text.specs.TextItems.{Placed, AreItems, no_item, and_item, IsFront}
use Rattle.psa_text.specs.TextFaults.{IsWithin}
use Rattle.psa_text.specs.scanner.Machine.{Lex, Between, Next, Broken, Within, Whole, next}
use Rattle.psa_text.specs.scanner.State.{line_after_byte}
use Rattle.psa_text.proofs.scanner.StatesReached.{Reached, at_between, Went, item_step}
use Rattle.psa_text.proofs.scanner.StatesClose.{closes}
use Rattle.psa_text.proofs.scanner.ItemsRun.{run, onward, over, item_run}

-- the items, the line of the next byte, that of the item under way or next, and where in it
pub record Reading : Type 0 where
  pub items : List Placed
  pub line : ℕ
  pub start : ℕ
  pub lex : Lex

-- before the first byte
abbrev pub first : Reading
first = record { items = []; line = 1; start = 1; lex = Between }

-- the reading after what a byte does
abbrev pub read_next : Reading → ℕ → Next → Option Reading
read_next r b Broken = None
read_next r b (Within q) = Some (record { items = r.items; line = line_after_byte r.line b; start = r.start; lex = q })
read_next r b (Whole item) = Some (record { items = r.items ++ ((item, r.start) ∷ []); line = line_after_byte r.line b; start = line_after_byte r.line b; lex = Between })

-- and then, where there is a reading
abbrev pub and_on : Option Reading → (Reading → Option Reading) → Option Reading
and_on None f = None
and_on (Some r) f = f r

-- the reading after these bytes
abbrev pub read_all : Reading → List ℕ → Option Reading
read_all r [] = Some r
read_all r (b ∷ bs) = and_on (read_next r b (next r.lex b)) (λ t. read_all t bs)

-- bytes in two parts are read one behind the other
pub read_all-append : (r : Reading) (u v : List ℕ) → read_all r (u ++ v) ≡ and_on (read_all r u) (λ t. read_all t v)
read_all-append r [] v = refl
read_all-append r (b ∷ u) v = elim (read_next r b (next r.lex b)) as (λ o. and_on o (λ t. read_all t (u ++ v)) ≡ and_on (and_on o (λ t. read_all t u)) (λ t. read_all t v)) [ None ↦ refl | Some t ↦ read_all-append t u v ]

-- the same, where the first part is read
pub read_then : (r s : Reading) (u v : List ℕ) → read_all r u ≡ Some s → read_all r (u ++ v) ≡ read_all s v
read_then r s u v h = read_all-append r u v ∙ rw h refl

and_some : (o : Option Reading) → and_on o (λ t. Some t) ≡ o
and_some None = refl
and_some (Some r) = refl

-- the same, for one more byte
pub read_one : (r s : Reading) (u : List ℕ) (b : ℕ) → read_all r u ≡ Some s → read_all r (u ++ (b ∷ [])) ≡ read_next s b (next s.lex b)
read_one r s u b h = read_then r s u (b ∷ []) h ∙ and_some (read_next s b (next s.lex b))

-- lines
fold-push : {A B : Type 0} (f : B → A → B) (a : B) (xs : List A) (x : A) → fold f a (xs ++ (x ∷ [])) ≡ f (fold f a xs) x
fold-push f a [] x = refl
fold-push f a (y ∷ ys) x = fold-push f (f a y) ys x

-- a count with one more item
pub count-push : {X : Type 0} (test : X → Bool) (xs : List X) (x : X) → count_by test (xs ++ (x ∷ [])) ≡ count_by test xs + (if test x then 1 else 0)
count-push test xs x = fold-push _ 0 xs x

line_by : (t : Bool) (count : ℕ) → 1 + (count + (if t then 1 else 0)) ≡ (if t then 1 + count + 1 else 1 + count)
line_by true count = omega arith
line_by false count = omega arith

-- the line behind one more byte
pub line-push : (bytes : List ℕ) (b : ℕ) → line_after (bytes ++ (b ∷ [])) ≡ line_after_byte (line_after bytes) b
line-push bytes b = ap (λ n. 1 + n) (count-push (λ c. c == 10) bytes b) ∙ line_by (b == 10) (count_by (λ c. c == 10) bytes)

-- Sound: what a reading says of the bytes.
pub record Standing (bytes : List ℕ) (r : Reading) : Type 0 where
  pub before : List ℕ
  pub part : List ℕ
  pub are : AreItems r.items before
  pub reached : Reached r.lex part
  pub joined : bytes ≡ before ++ part
  pub line : r.line ≡ line_after bytes
  pub start : r.start ≡ line_after before

-- a reading, if there is one, says what it should of the bytes
abbrev pub StandingAt : List ℕ → Option Reading → Type 0
StandingAt bytes None = Unit {0}
StandingAt bytes (Some r) = Standing bytes r

standing_next : (bytes : List ℕ) (r : Reading) (b : ℕ) (s : Standing bytes r) (n : Next) → Went (s.part ++ (b ∷ [])) n → StandingAt (bytes ++ (b ∷ [])) (read_next r b n)
standing_next bytes r b s Broken w = tt
standing_next bytes r b s (Within q) w = record {
  before = s.before;
  part = s.part ++ (b ∷ []);
  are = s.are;
  reached = w;
  joined = rw (s.joined) (append_assoc s.before s.part (b ∷ []));
  line = rw (s.line) (sym (line-push bytes b));
  start = s.start;
}
standing_next bytes r b s (Whole item) w =
    let joined : bytes ++ (b ∷ []) ≡ s.before ++ (s.part ++ (b ∷ [])) = ap (λ x. x ++ (b ∷ [])) s.joined ∙ append_assoc s.before s.part (b ∷ []) in
    let line : line_after_byte r.line b ≡ line_after (bytes ++ (b ∷ [])) = ap (λ n. line_after_byte n b) s.line ∙ sym (line-push bytes b) in
    record {
      before = s.before ++ (s.part ++ (b ∷ []));
      part = [];
      are = rw (s.start) (and_item r.items s.before item (s.part ++ (b ∷ [])) s.are w);
      reached = at_between;
      joined = joined ∙ sym (append-nil (s.before ++ (s.part ++ (b ∷ []))));
      line = line;
      start = line ∙ ap line_after joined;
    }

-- one more byte keeps what a reading says
pub standing_step : (bytes : List ℕ) (r : Reading) (b : ℕ) → Standing bytes r → StandingAt (bytes ++ (b ∷ [])) (read_next r b (next r.lex b))
standing_step bytes r b s = standing_next bytes r b s (next r.lex b) (item_step b s.reached)

standing_on : (bytes : List ℕ) (b : ℕ) (bs : List ℕ) (o : Option Reading) → ((r : Reading) → Standing (bytes ++ (b ∷ [])) r → StandingAt ((bytes ++ (b ∷ [])) ++ bs) (read_all r bs)) → StandingAt (bytes ++ (b ∷ [])) o → StandingAt (bytes ++ (b ∷ bs)) (and_on o (λ t. read_all t bs))
standing_on bytes b bs None on s = tt
standing_on bytes b bs (Some r) on s = subst (λ u. StandingAt u (read_all r bs)) (append_assoc bytes (b ∷ []) bs) (on r s)

standing_all : (bytes : List ℕ) (r : Reading) (bs : List ℕ) → Standing bytes r → StandingAt (bytes ++ bs) (read_all r bs)
standing_all bytes r [] s = rw (append-nil bytes) s
standing_all bytes r (b ∷ bs) s = standing_on bytes b bs (read_next r b (next r.lex b)) (λ t k. standing_all (bytes ++ (b ∷ [])) t bs k) (standing_step bytes r b s)

standing_first : Standing [] first
standing_first = record { before = []; part = []; are = no_item; reached = at_between; joined = refl; line = refl; start = refl }

-- what is read from the start says what it should
pub standing : (bytes : List ℕ) (r : Reading) → read_all first bytes ≡ Some r → Standing bytes r
standing bytes r h = subst (StandingAt bytes) h (standing_all [] first bytes standing_first)

-- What has a reading is a front.
pub live_front : (bytes : List ℕ) (r : Reading) → read_all first bytes ≡ Some r → IsFront bytes
live_front bytes r h =
    let s = standing bytes r h in
    let c = closes s.reached in
    let joined : bytes ++ (c.byte ∷ c.more) ≡ s.before ++ (s.part ++ (c.byte ∷ c.more)) = ap (λ x. x ++ (c.byte ∷ c.more)) s.joined ∙ append_assoc s.before s.part (c.byte ∷ c.more) in
    (c.byte ∷ c.more, r.items ++ ((c.item, line_after s.before) ∷ []), subst (λ u. AreItems (r.items ++ ((c.item, line_after s.before) ∷ [])) u) (sym joined) (and_item r.items s.before c.item (s.part ++ (c.byte ∷ c.more)) s.are c.is_item))

-- Complete: the items of the grammar are read.
abbrev pub at_lex : List Placed → List ℕ → List ℕ → Lex → Reading
at_lex items before all p = record { items = items; line = line_after all; start = line_after before; lex = p }

line_more : (all : List ℕ) (b : ℕ) (bs : List ℕ) → line_after ((all ++ (b ∷ [])) ++ bs) ≡ line_after (all ++ (b ∷ bs))
line_more all b bs = ap line_after (append_assoc all (b ∷ []) bs)

run_on : (items : List Placed) (before all : List ℕ) (b : ℕ) (bs : List ℕ) (q : Lex) (n : Next) → ((p : Lex) → run p bs ≡ Within q → read_all (at_lex items before (all ++ (b ∷ [])) p) bs ≡ Some (at_lex items before ((all ++ (b ∷ [])) ++ bs) q)) → onward bs n ≡ Within q → and_on (read_next (at_lex items before all Between) b n) (λ t. read_all t bs) ≡ Some (at_lex items before (all ++ (b ∷ bs)) q)
run_on items before all b bs q Broken on h = absurd (cc)
run_on items before all b bs q (Within p) on h = rw (← line-push all b) (on p h ∙ rw (append_assoc all (b ∷ []) bs) refl)
run_on items before all b bs q (Whole item) on h = absurd (over item bs q h)

-- a run within an item is read
pub run_reads : (items : List Placed) (before all : List ℕ) (p q : Lex) (bs : List ℕ) → run p bs ≡ Within q → read_all (at_lex items before all p) bs ≡ Some (at_lex items before (all ++ bs) q)
run_reads items before all p q [] h = let e : p ≡ q = cc in rw (e, append-nil all) refl
run_reads items before all p q (b ∷ bs) h = run_on items before all b bs q (next p b) (λ t k. run_reads items before (all ++ (b ∷ [])) t q bs k) h

-- the reading behind a whole item
abbrev pub behind_item : List Placed → List ℕ → Item → List ℕ → Reading
behind_item items before item all = record { items = items ++ ((item, line_after before) ∷ []); line = line_after all; start = line_after all; lex = Between }

whole_on : (items : List Placed) (before all : List ℕ) (b : ℕ) (bs : List ℕ) (item : Item) (n : Next) → ((p : Lex) → run p bs ≡ Whole item → read_all (at_lex items before (all ++ (b ∷ [])) p) bs ≡ Some (behind_item items before item ((all ++ (b ∷ [])) ++ bs))) → onward bs n ≡ Whole item → and_on (read_next (at_lex items before all Between) b n) (λ t. read_all t bs) ≡ Some (behind_item items before item (all ++ (b ∷ bs)))
whole_on items before all b bs item Broken on h = absurd (cc)
whole_on items before all b bs item (Within p) on h = rw (← line-push all b) (on p h ∙ rw (append_assoc all (b ∷ []) bs) refl)
whole_on items before all b [] item (Whole other) on h = let e : other ≡ item = cc in rw (e, ← line-push all b) refl
whole_on items before all b (c ∷ bs) item (Whole other) on h = absurd (cc)

-- a run over a whole item is read
pub whole_reads : (items : List Placed) (before all : List ℕ) (p : Lex) (item : Item) (bs : List ℕ) → run p bs ≡ Whole item → read_all (at_lex items before all p) bs ≡ Some (behind_item items before item (all ++ bs))
whole_reads items before all p item [] h = absurd (cc)
whole_reads items before all p item (b ∷ bs) h = whole_on items before all b bs item (next p b) (λ t k. whole_reads items before (all ++ (b ∷ [])) t item bs k) h

-- the items of the grammar are read
pub items_read : {items : List Placed} {bytes : List ℕ} → AreItems items bytes → read_all first bytes ≡ Some (at_lex items bytes bytes Between)
items_read no_item = refl
items_read (and_item items before item bytes are is) =
    read_then first (at_lex items before before Between) before bytes (items_read are) ∙ whole_reads items before before Between item bytes (item_run is)

-- the reading behind items and a part of one over which the machine runs
pub part_read : (items : List Placed) (before part : List ℕ) (p : Lex) → AreItems items before → run Between part ≡ Within p → read_all first (before ++ part) ≡ Some (at_lex items before (before ++ part) p)
part_read items before part p are h = read_then first (at_lex items before before Between) before part (items_read are) ∙ run_reads items before before Between p part h

-- the part of a reading, where it isn't between items
part_some : (bytes : List ℕ) (r : Reading) (h : read_all first bytes ≡ Some r) → r.lex ≢ Between → (standing bytes r h).part ≢ []
part_some bytes r h other nil =
    let s = standing bytes r h in
    let joined : bytes ≡ s.before = s.joined ∙ rw (nil) (append-nil s.before) in
    let same : Some r ≡ Some (at_lex r.items s.before s.before Between) = sym h ∙ ap (read_all first) joined ∙ items_read s.are in
    other (ap (λ o. lex_or o) same)
  where
    lex_or : Option Reading → Lex
    lex_or None = Between
    lex_or (Some r) = r.lex

-- a reading within an item has its part
pub within : (bytes : List ℕ) (r : Reading) (h : read_all first bytes ≡ Some r) → r.lex ≢ Between → IsWithin bytes r.items r.start (standing bytes r h).part
within bytes r h other =
    let s = standing bytes r h in
    let c = closes s.reached in
    record { before = s.before; are = s.are; is_part = record { item = c.item; byte = c.byte; more = c.more; some = part_some bytes r h other; is_item = c.is_item }; joined = s.joined; at = s.start }

-- What has no reading is no front.
pub dead_front : (bytes : List ℕ) → read_all first bytes ≡ None → IsFront bytes → ⊥
dead_front bytes h front = none_some (sym (read_all-append first bytes front.0 ∙ rw h refl) ∙ items_read front.2)
  where
    none_some : {r : Reading} → None ≡ Some r → ⊥
    none_some h = cc
