-- What a scan says of the bytes that it has read, and that each byte is answered as the definition of faults has it.
use Rattle.std.specs.Prelude.{◌≡◌, ◌≢◌, ℕ, ◌+◌, ◌*◌, ◌≤◌, ◌<◌, Bool, true, false, if◌then◌else◌, not, ◌&&◌, ◌||◌, ◌==◌, nat_lt, nat_le, List, [], ◌∷◌, ◌++◌, length, Option, Some, None, Result, Ok, Err}
use Rattle.std.proofs.Common.{refl, sym, ◌∙◌, ap, subst, arith, append_assoc, append-nil}
use Rattle.std.proofs.lemmas.Bool.Decides.{nat_tests}
use Rattle.psa_text.specs.declared.scanner.item.Item.{Item}
use Rattle.psa_text.specs.declared.scanner.item.Item.TheVariants.{Text}
use Rattle.psa_text.specs.declared.scanner.mark.Mark.{Mark}
use Rattle.psa_text.specs.declared.scanner.mark.Mark.TheVariants.{Unread, FirstByte, SecondByte, Passed}
use Rattle.psa_text.specs.declared.scanner.error.TextFault.{TextFault}
use Rattle.psa_text.specs.declared.scanner.error.TextKind.TheVariants.{LongFile, BadMarkup, LongToken}
use Rattle.psa_text.specs.scanner.Nesting.{State, at_start, nesting_after_item}
use Rattle.psa_text.specs.TextBytes.{AllPass, is_name_start, is_digit_of, digit_of, spaced, line_after}
use Rattle.psa_text.specs.TextItems.{bytes_of_reference, Placed, AreItems, and_item}
use Rattle.psa_text.specs.TextTree.{IsDocumentFront}
use Rattle.psa_text.specs.TextFaults.{IsMarkFront, one_byte, two_bytes, whole_mark, behind_two, behind_one, unmarked, IsWithin, IsLong, long_name, many_attributes, long_value, IsBadEnd, begins_element, element_count, fault, DecidesWithin, many_elements, no_front, bad_end, long_token, bad_nesting, Decides, long_file, broken_at_two, broken_at_three, behind_mark, NoFault, FirstFault}
use Rattle.psa_text.specs.scanner.Machine.{Inside, Reference, Ampersand, LetterA, Named, NumberSign, Digits, Lex, Between, Opened, Value, Refer, Next, Broken, Within, Whole, with_bytes, next_reference, next_in_reference, next, is_long, is_bad_end, begins_tag}
use Rattle.psa_text.specs.scanner.View.{judgement_of}
use Rattle.psa_text.specs.scanner.State.{Scan, start_scan, line_after_byte, scan_after_item, scan_after_judged, scan_after_item_byte, scan_with_mark, scan_after_at, scan_after, and_then, scan_after_bytes}
use Rattle.psa_text.proofs.scanner.StatesReached.{choose, equal, and_true, Reached, at_opened, Went, item_step}
use Rattle.psa_text.proofs.scanner.ItemsRun.{value_at}
use Rattle.psa_text.proofs.scanner.TreesNest.{nests, nests-append, nests_then, onward, stands_front, Stands, StandsAt, step_stands, before_root, document_nests}
use Rattle.psa_text.proofs.scanner.ReadingsStand.{Reading, first, read_next, and_on, read_all, read_then, read_one, count-push, standing, live_front, within, dead_front, part_read, items_read}
use Rattle.psa_text.proofs.scanner.ItemFaults.{bad_sound, long_sound, bad_complete, name_run, attribute_part_run, opened_run}

some_same : {A : Type 0} {x y : A} → Some x ≡ Some y → x ≡ y
some_same h = cc

-- two readings of the same bytes
same_reading : (bytes : List ℕ) (r s : Reading) → read_all first bytes ≡ Some r → read_all first bytes ≡ Some s → r ≡ s
same_reading bytes r s h k = some_same (sym h ∙ k)

-- Long values: within a value, each byte that isn't its quote is counted.
abbrev pub InsideAt : ℕ → ℕ → Lex → Type 0
InsideAt quote count (Value v) = (v.quote ≡ quote) × (v.count ≡ count)
InsideAt quote count (Refer v r) = (v.quote ≡ quote) × (v.count ≡ count)
InsideAt quote count _ = ⊥

-- a value goes on, or is whole
abbrev pub InsideNext : ℕ → ℕ → Next → Type 0
InsideNext quote count Broken = Unit {0}
InsideNext quote count (Within q) = InsideAt quote count q
InsideNext quote count (Whole item) = ⊥

on_refer : (quote count : ℕ) (v : Inside) (r : Reference) → v.quote ≡ quote → v.count ≡ count → InsideNext quote (count + 1) (next_reference v r)
on_refer quote count v r e f = (e, rw f refl)

on_value : (quote count : ℕ) (v : Inside) (bytes : List ℕ) → v.quote ≡ quote → v.count ≡ count → InsideNext quote (count + 1) (Within (Value (with_bytes v bytes)))
on_value quote count v bytes e f = (e, rw f refl)

refer_inside : (quote count : ℕ) (v : Inside) (r : Reference) (b : ℕ) → v.quote ≡ quote → v.count ≡ count → InsideNext quote (count + 1) (next_in_reference v r b)
refer_inside quote count v Ampersand b e f =
    choose (InsideNext quote (count + 1)) (b == 35) _ _ (λ _. on_refer quote count v NumberSign e f)
    (λ _. choose (InsideNext quote (count + 1)) (b == 108) _ _ (λ _. on_refer quote count v (Named (116 ∷ []) 60) e f)
    (λ _. choose (InsideNext quote (count + 1)) (b == 103) _ _ (λ _. on_refer quote count v (Named (116 ∷ []) 62) e f)
    (λ _. choose (InsideNext quote (count + 1)) (b == 113) _ _ (λ _. on_refer quote count v (Named (117 ∷ 111 ∷ 116 ∷ []) 34) e f)
    (λ _. choose (InsideNext quote (count + 1)) (b == 97) _ _ (λ _. on_refer quote count v LetterA e f) (λ _. tt)))))
refer_inside quote count v LetterA b e f =
    choose (InsideNext quote (count + 1)) (b == 109) _ _ (λ _. on_refer quote count v (Named (112 ∷ []) 38) e f)
    (λ _. choose (InsideNext quote (count + 1)) (b == 112) _ _ (λ _. on_refer quote count v (Named (111 ∷ 115 ∷ []) 39) e f) (λ _. tt))
refer_inside quote count v (Named [] code) b e f = choose (InsideNext quote (count + 1)) (b == 59) _ _ (λ _. on_value quote count v (bytes_of_reference code) e f) (λ _. tt)
refer_inside quote count v (Named (c ∷ rest) code) b e f = choose (InsideNext quote (count + 1)) (b == c) _ _ (λ _. on_refer quote count v (Named rest code) e f) (λ _. tt)
refer_inside quote count v NumberSign b e f =
    choose (InsideNext quote (count + 1)) (b == 120) _ _ (λ _. on_refer quote count v (Digits 16 0 0) e f)
    (λ _. choose (InsideNext quote (count + 1)) (is_digit_of 10 b) _ _ (λ _. on_refer quote count v (Digits 10 1 (10 * 0 + digit_of b)) e f) (λ _. tt))
refer_inside quote count v (Digits base digits number) b e f =
    choose (InsideNext quote (count + 1)) (is_digit_of base b && nat_lt digits 8) _ _ (λ _. on_refer quote count v (Digits base (digits + 1) (base * number + digit_of b)) e f)
    (λ _. choose (InsideNext quote (count + 1)) ((b == 59) && nat_lt 0 digits) _ _ (λ _. on_value quote count v (bytes_of_reference number) e f) (λ _. tt))

not_false : (t : Bool) → not t ≡ true → t ≡ false
not_false true h = cc
not_false false h = refl

inside_step : (quote count : ℕ) (p : Lex) (b : ℕ) → InsideAt quote count p → not (b == quote) ≡ true → InsideNext quote (count + 1) (next p b)
inside_step quote count (Value v) b is other =
    let plain : (b == v.quote) ≡ false = rw (is.0) (not_false (b == quote) other) in
    rw plain (choose (InsideNext quote (count + 1)) (b == 38) _ _ (λ _. on_refer quote count v Ampersand is.0 is.1)
    (λ _. choose (InsideNext quote (count + 1)) (b == 60) _ _ (λ _. tt) (λ _. on_value quote count v (spaced b ∷ []) is.0 is.1)))
inside_step quote count (Refer v r) b is other = refer_inside quote count v r b is.0 is.1
inside_step quote count _ b is other = absurd is

inside_on : (quote count : ℕ) (r s : Reading) (b : ℕ) (bs : List ℕ) (n : Next) → ((t : Reading) → InsideAt quote (count + 1) t.lex → read_all t bs ≡ Some r → InsideAt quote (count + length (b ∷ bs)) r.lex) → InsideNext quote (count + 1) n → and_on (read_next s b n) (λ t. read_all t bs) ≡ Some r → InsideAt quote (count + length (b ∷ bs)) r.lex
inside_on quote count r s b bs Broken on is h = absurd (cc)
inside_on quote count r s b bs (Within q) on is h = on (record { items = s.items; line = line_after_byte s.line b; start = s.start; lex = q }) is h
inside_on quote count r s b bs (Whole item) on is h = absurd is

inside_reads : (quote count : ℕ) (raw : List ℕ) (r s : Reading) → AllPass (λ b. not (b == quote)) raw → InsideAt quote count s.lex → read_all s raw ≡ Some r → InsideAt quote (count + length raw) r.lex
inside_reads quote count [] r s are is h = let e : s ≡ r = some_same h in let z : count + 0 ≡ count = omega arith in rw (← e, z) is
inside_reads quote count (b ∷ bs) r s are is h =
    let moved : count + 1 + length bs ≡ count + length (b ∷ bs) = omega arith in
    inside_on quote count r s b bs (next s.lex b) (λ t k g. rw moved at (inside_reads quote (count + 1) bs r t are.1 k g)) (inside_step quote count s.lex b is are.0) h

is_above : (n m : ℕ) → n < m → nat_lt n m ≡ true
is_above n m h = grind (arith, nat_tests, h)

is_at_least : (n m : ℕ) → n ≤ m → nat_le n m ≡ true
is_at_least n m h = grind (arith, nat_tests, h)

or_true : (t : Bool) → (t || true) ≡ true
or_true true = refl
or_true false = refl

long_inside : (quote count : ℕ) (p : Lex) → InsideAt quote count p → 512 < count → is_long p ≡ true
long_inside quote count (Value v) is h = is_above 512 v.count (rw (is.1) h)
long_inside quote count (Refer v r) is h = is_above 512 v.count (rw (is.1) h)
long_inside quote count _ is h = absurd is

-- a part that is too long, behind items, is read to a state that is
pub long_complete : {part : List ℕ} → IsLong part → (items : List Placed) (before : List ℕ) (r : Reading) → AreItems items before → read_all first (before ++ part) ≡ Some r → is_long r.lex ≡ true
long_complete (long_name part name ends long) items before r are h =
    let n = name_run ends in
    rw (ap (λ t. t.lex) (same_reading (before ++ part) r _ h (part_read items before part n.state are n.ran))) (n.long long)
long_complete (many_attributes head tag blanks name is many some blank named) items before r are h =
    rw (ap (λ t. t.lex) (same_reading (before ++ (head ++ (blanks ++ name))) r _ h (part_read items before (head ++ (blanks ++ name)) _ are (attribute_part_run head tag blanks name is some blank named)))) (rw (is_at_least 32 (length tag.attributes) many) (or_true (nat_lt 64 (length name))))
long_complete (long_value head tag quote name opening raw is opens other long) items before r are h =
    let opened = part_read items before (head ++ (opening ++ [])) (value_at tag name quote 0 []) are (opened_run head tag quote name opening [] _ is opens refl) in
    let spelled : before ++ (head ++ (opening ++ raw)) ≡ (before ++ (head ++ (opening ++ []))) ++ raw = rw (append-nil opening, append_assoc before (head ++ opening) raw, append_assoc head opening raw) refl in
    let rest = sym (read_then first _ (before ++ (head ++ (opening ++ []))) raw opened) ∙ ap (read_all first) (sym spelled) ∙ h in
    long_inside quote (0 + length raw) r.lex (inside_reads quote 0 raw r _ other (refl, refl) rest) (omega (arith, long))

-- One byte behind any byte order mark.
abbrev pub scan_at : Mark → ℕ → Reading → State → Scan
scan_at mark count r t = record { mark = mark; count = count; line = r.line; start = r.start; elements = element_count r.items; lex = r.lex; nesting = t }

-- a scan stands where these bytes lead, with the tree of their items so far
pub record Fits (body : List ℕ) (s : Scan) : Type 0 where
  pub reading : Reading
  pub state : State
  pub read : read_all first body ≡ Some reading
  pub nested : nests reading.items at_start ≡ Some state
  pub is : s ≡ scan_at s.mark s.count reading state

-- what one more byte behind the mark gives: a scan that fits, or the fault that the byte decides
abbrev pub OutcomeWithin : List ℕ → ℕ → ℕ → Result Scan TextFault → Type 0
OutcomeWithin body b count (Ok s) = Fits (body ++ (b ∷ [])) s × (s.mark ≡ Passed) × (s.count ≡ count + 1) × ((found : TextFault) → DecidesWithin body b found → ⊥)
OutcomeWithin body b count (Err found) = DecidesWithin body b found

opened_only : (p : Lex) (b : ℕ) → begins_tag p b ≡ true → (p ≡ Opened) × (is_name_start b ≡ true)
opened_only Opened b h = (refl, h)
opened_only _ b h = absurd (cc)

opened_part : {w : List ℕ} → Reached Opened w → w ≡ 60 ∷ []
opened_part at_opened = refl

nests_stands : (items : List Placed) (xs : List Placed) (s : State) → Stands items s → StandsAt (items ++ xs) (nests xs s)
nests_stands items [] s is = rw (append-nil items) is
nests_stands items (x ∷ xs) s is = on (nesting_after_item x.0 x.1 s) (step_stands x.0 x.1 is) (λ t k. nests_stands (items ++ (x ∷ [])) xs t k)
  where
    on : (o : Option State) → StandsAt (items ++ (x ∷ [])) o → ((t : State) → Stands (items ++ (x ∷ [])) t → StandsAt ((items ++ (x ∷ [])) ++ xs) (nests xs t)) → StandsAt (items ++ (x ∷ xs)) (onward o (nests xs))
    on None s f = tt
    on (Some t) s f = subst (λ u. StandsAt u (nests xs t)) (append_assoc items (x ∷ []) xs) (f t s)

-- items that nest have a tree so far
pub nested_stands : (items : List Placed) (t : State) → nests items at_start ≡ Some t → Stands items t
nested_stands items t h = subst (StandsAt items) h (nests_stands [] items at_start (before_root [] tt))

-- items that nest are the front of a document
pub nested_front : (items : List Placed) (t : State) → nests items at_start ≡ Some t → IsDocumentFront items
nested_front items t h = stands_front (nested_stands items t h)

none_some : {A : Type 0} {x : A} → None ≡ Some x → ⊥
none_some h = cc

-- items that do not nest are the front of no document
pub unnested_front : (items : List Placed) → nests items at_start ≡ None → IsDocumentFront items → ⊥
unnested_front items h front = none_some (sym (nests-append items front.0 at_start ∙ rw h refl) ∙ document_nests front.2)

bad_reads : (body : List ℕ) (b : ℕ) (r : Reading) (items : List Placed) (part before : List ℕ) → read_all first body ≡ Some r → AreItems items before → body ≡ before ++ part → IsBadEnd part b → is_bad_end r.lex b ≡ false → ⊥
bad_reads body b r items part before read are joined bad good =
    let ends = bad_complete bad in
    let same = same_reading body r _ read (ap (read_all first) joined ∙ part_read items before part ends.state are ends.ran) in
    true_false (sym (rw (ap (λ u. u.lex) same) ends.bad) ∙ good)
  where
    true_false : true ≡ false → ⊥
    true_false h = cc

-- No fault is decided where the machine goes on.
no_decision : (body : List ℕ) (b : ℕ) (r s : Reading) (t : State) → read_all first body ≡ Some r → read_all first (body ++ (b ∷ [])) ≡ Some s → nests s.items at_start ≡ Some t → ((element_count r.items == 1000000) && begins_tag r.lex b) ≡ false → is_bad_end r.lex b ≡ false → is_long s.lex ≡ false → (found : TextFault) → DecidesWithin body b found → ⊥
no_decision body b r s t read went nested few good short _ (many_elements _ _ items line is start many) =
    let same = same_reading body r _ read (ap (read_all first) is.joined ∙ part_read items is.before (60 ∷ []) Opened is.are refl) in
    let test : ((element_count r.items == 1000000) && begins_tag r.lex b) ≡ true = rw (same, many, start) refl in
    absurd (true_false (sym test ∙ few))
  where
    true_false : true ≡ false → ⊥
    true_false h = cc
no_decision body b r s t read went nested few good short _ (no_front _ _ items line part dead is) = dead (live_front (body ++ (b ∷ [])) s went)
no_decision body b r s t read went nested few good short _ (bad_end _ _ items line part is bad) = bad_reads body b r items part is.before read is.are is.joined bad good
no_decision body b r s t read went nested few good short _ (long_token _ _ items line part live is long other) =
    true_false (sym (long_complete long items is.before s is.are (ap (read_all first) (sym (ap (λ x. x ++ (b ∷ [])) is.joined ∙ append_assoc is.before part (b ∷ []))) ∙ went)) ∙ short)
  where
    true_false : true ≡ false → ⊥
    true_false h = cc
no_decision body b r s t read went nested few good short _ (bad_nesting _ _ items start part item are joined is other front refused) =
    let whole = items_read (and_item items start item (part ++ (b ∷ [])) are is) in
    let bytes : body ++ (b ∷ []) ≡ start ++ (part ++ (b ∷ [])) = ap (λ x. x ++ (b ∷ [])) joined ∙ append_assoc start part (b ∷ []) in
    let same = same_reading (body ++ (b ∷ [])) s _ went (ap (read_all first) bytes ∙ whole) in
    refused (rw (ap (λ u. u.items) same) at (nested_front s.items t nested))

opened_between : Opened ≡ Between → ⊥
opened_between h = cc

true_false : true ≡ false → ⊥
true_false h = cc

-- each fault that the machine answers, as the definition has it
many_outcome : (body : List ℕ) (b : ℕ) (r : Reading) → read_all first body ≡ Some r → ((element_count r.items == 1000000) && begins_tag r.lex b) ≡ true → DecidesWithin body b (fault LongFile r.line)
many_outcome body b r read h =
    let t = and_true (element_count r.items == 1000000) (begins_tag r.lex b) h in
    let o = opened_only r.lex b t.1 in
    let s = standing body r read in
    let part : s.part ≡ 60 ∷ [] = opened_part (subst (λ p. Reached p s.part) o.0 s.reached) in
    rw (s.line) (many_elements body b r.items r.start (subst (λ x. IsWithin body r.items r.start x) part (within body r read (λ e. opened_between (sym o.0 ∙ e)))) o.1 (equal (element_count r.items) 1000000 t.0))

bad_between : (p : Lex) (b : ℕ) → is_bad_end p b ≡ true → p ≢ Between
bad_between p b h e = true_false (sym (rw e at h))

bad_outcome : (body : List ℕ) (b : ℕ) (r : Reading) → read_all first body ≡ Some r → is_bad_end r.lex b ≡ true → DecidesWithin body b (fault BadMarkup r.start)
bad_outcome body b r read h = bad_end body b r.items r.start (standing body r read).part (within body r read (bad_between r.lex b h)) (bad_sound b (standing body r read).reached h)

between_alive : (b : ℕ) → next Between b ≡ Broken → ⊥
between_alive b h = on (b == 60) h
  where
    on : (t : Bool) → (if t then Within Opened else Whole (Text b)) ≡ Broken → ⊥
    on true h = cc
    on false h = cc

between_short : (b : ℕ) (q : Lex) → next Between b ≡ Within q → is_long q ≡ true → ⊥
between_short b q h = on (b == 60) h
  where
    on : (t : Bool) → (if t then Within Opened else Whole (Text b)) ≡ Within q → is_long q ≡ true → ⊥
    on true h l = let e : Opened ≡ q = cc in true_false (sym (rw (← e) at l))
    on false h l = cc

broken_outcome : (body : List ℕ) (b : ℕ) (r : Reading) → read_all first body ≡ Some r → next r.lex b ≡ Broken → DecidesWithin body b (fault BadMarkup r.start)
broken_outcome body b r read h =
    no_front body b r.items r.start (standing body r read).part
    (dead_front (body ++ (b ∷ [])) (read_one first r body b read ∙ ap (read_next r b) h))
    (within body r read (λ e. between_alive b (rw e at h)))

long_outcome : (body : List ℕ) (b : ℕ) (r : Reading) (q : Lex) → read_all first body ≡ Some r → is_bad_end r.lex b ≡ false → next r.lex b ≡ Within q → is_long q ≡ true → DecidesWithin body b (fault LongToken r.start)
long_outcome body b r q read good h long =
    let s = standing body r read in
    long_token body b r.items r.start s.part
    (live_front (body ++ (b ∷ [])) _ (read_one first r body b read ∙ ap (read_next r b) h))
    (within body r read (λ e. between_short b q (rw e at h) long))
    (long_sound (subst (Went (s.part ++ (b ∷ []))) h (item_step b s.reached)) long)
    (λ bad. bad_reads body b r r.items s.part s.before read s.are s.joined bad good)

on_outcome : (body : List ℕ) (b count : ℕ) (r : Reading) (t : State) (q : Lex) → read_all first body ≡ Some r → nests r.items at_start ≡ Some t → ((element_count r.items == 1000000) && begins_tag r.lex b) ≡ false → is_bad_end r.lex b ≡ false → next r.lex b ≡ Within q → is_long q ≡ false → OutcomeWithin body b count (Ok (record { mark = Passed; count = count + 1; line = line_after_byte r.line b; start = r.start; elements = element_count r.items; lex = q; nesting = t }))
on_outcome body b count r t q read nested few good h short =
    let went = read_one first r body b read ∙ ap (read_next r b) h in
    let s : Reading = record { items = r.items; line = line_after_byte r.line b; start = r.start; lex = q } in
    (record { reading = s; state = t; read = went; nested = nested; is = refl }, refl, refl, no_decision body b r s t read went nested few good short)

nest_push : (items : List Placed) (item : Item) (line : ℕ) (t : State) (o : Option State) → nests items at_start ≡ Some t → nesting_after_item item line t ≡ o → nests (items ++ ((item, line) ∷ [])) at_start ≡ o
nest_push items item line t o h k = nests_then items ((item, line) ∷ []) at_start t o h (ap (λ x. onward x (nests [])) k ∙ on o)
  where
    on : (o : Option State) → onward o (nests []) ≡ o
    on None = refl
    on (Some s) = refl

nested_outcome : (body : List ℕ) (b count : ℕ) (mark : Mark) (r : Reading) (t : State) (item : Item) (o : Option State) → read_all first body ≡ Some r → nests r.items at_start ≡ Some t → ((element_count r.items == 1000000) && begins_tag r.lex b) ≡ false → is_bad_end r.lex b ≡ false → next r.lex b ≡ Whole item → nesting_after_item item r.start t ≡ o → OutcomeWithin body b count (scan_after_item (scan_at mark count r t) b item o)
nested_outcome body b count mark r t item None read nested few good h k =
    let s = standing body r read in
    let refused : nests (r.items ++ ((item, line_after s.before) ∷ [])) at_start ≡ None = rw (← s.start) (nest_push r.items item r.start t None nested k) in
    rw (s.start) (bad_nesting body b r.items s.before s.part item s.are s.joined
    (subst (Went (s.part ++ (b ∷ []))) h (item_step b s.reached))
    (λ bad. bad_reads body b r r.items s.part s.before read s.are s.joined bad good)
    (nested_front r.items t nested)
    (unnested_front (r.items ++ ((item, line_after s.before) ∷ [])) refused))
nested_outcome body b count mark r t item (Some u) read nested few good h k =
    let went = read_one first r body b read ∙ ap (read_next r b) h in
    let s : Reading = record { items = r.items ++ ((item, r.start) ∷ []); line = line_after_byte r.line b; start = line_after_byte r.line b; lex = Between } in
    let pushed = nest_push r.items item r.start t (Some u) nested k in
    (record { reading = s; state = u; read = went; nested = pushed; is = rw (count-push (λ placed. begins_element placed.0) r.items (item, r.start)) refl }, refl, refl, no_decision body b r s u read went pushed few good refl)

next_outcome : (body : List ℕ) (b count : ℕ) (mark : Mark) (r : Reading) (t : State) (n : Next) → read_all first body ≡ Some r → nests r.items at_start ≡ Some t → ((element_count r.items == 1000000) && begins_tag r.lex b) ≡ false → is_bad_end r.lex b ≡ false → next r.lex b ≡ n → OutcomeWithin body b count (scan_after_judged (scan_at mark count r t) b (judgement_of n))
next_outcome body b count mark r t Broken read nested few good h = broken_outcome body b r read h
next_outcome body b count mark r t (Within q) read nested few good h =
    choose (λ j. OutcomeWithin body b count (scan_after_judged (scan_at mark count r t) b j)) (is_long q) _ _
    (λ long. long_outcome body b r q read good h long)
    (λ short. on_outcome body b count r t q read nested few good h short)
next_outcome body b count mark r t (Whole item) read nested few good h = nested_outcome body b count mark r t item (nesting_after_item item r.start t) read nested few good h refl

item_outcome : (body : List ℕ) (b count : ℕ) (mark : Mark) (r : Reading) (t : State) → read_all first body ≡ Some r → nests r.items at_start ≡ Some t → OutcomeWithin body b count (scan_after_item_byte (scan_at mark count r t) b)
item_outcome body b count mark r t read nested =
    choose (OutcomeWithin body b count) ((element_count r.items == 1000000) && begins_tag r.lex b) _ _
    (λ many. many_outcome body b r read many)
    (λ few. choose (λ j. OutcomeWithin body b count (scan_after_judged (scan_at mark count r t) b j)) (is_bad_end r.lex b) _ _
    (λ bad. bad_outcome body b r read bad)
    (λ good. next_outcome body b count mark r t (next r.lex b) read nested few good refl))

-- The byte order mark.
line_two : (bs : List ℕ) → line_after (behind_two bs) ≡ line_after (239 ∷ 187 ∷ bs)
line_two [] = refl
line_two (b ∷ bs) = choose (λ x. line_after x ≡ line_after (239 ∷ 187 ∷ b ∷ bs)) (b == 191) _ _ (λ e. rw (equal b 191 e) refl) (λ _. refl)

line_one : (bs : List ℕ) → line_after (behind_one bs) ≡ line_after (239 ∷ bs)
line_one [] = refl
line_one (b ∷ bs) = choose (λ x. line_after x ≡ line_after (239 ∷ b ∷ bs)) (b == 187) _ _ (λ e. rw (equal b 187 e) (line_two bs)) (λ _. refl)

line_unmarked : (bs : List ℕ) → line_after (unmarked bs) ≡ line_after bs
line_unmarked [] = refl
line_unmarked (b ∷ bs) = choose (λ x. line_after x ≡ line_after (b ∷ bs)) (b == 239) _ _ (λ e. rw (equal b 239 e) (line_one bs)) (λ _. refl)

-- behind these bytes no byte order mark is under way
pub record Settled (h : List ℕ) : Type 0 where
  pub more : (w : List ℕ) → unmarked (h ++ w) ≡ unmarked h ++ w
  -- what goes on from bytes that are no front of the mark is none
  pub past : (w : List ℕ) → w ≢ [] → IsMarkFront (h ++ w) → ⊥

mark_begins : {b : ℕ} {w : List ℕ} → IsMarkFront (b ∷ w) → (b == 239) ≡ true
mark_begins one_byte = refl
mark_begins two_bytes = refl
mark_begins whole_mark = refl

mark_ends : {w : List ℕ} → IsMarkFront (239 ∷ 187 ∷ 191 ∷ w) → w ≡ []
mark_ends whole_mark = refl

mark_second : {b : ℕ} → IsMarkFront (239 ∷ b ∷ []) → b ≡ 187
mark_second two_bytes = refl

mark_third : {b : ℕ} → IsMarkFront (239 ∷ 187 ∷ b ∷ []) → b ≡ 191
mark_third whole_mark = refl

settled_plain : (b : ℕ) → (b == 239) ≡ false → Settled (b ∷ [])
settled_plain b e = record { more = λ w. rw e refl; past = λ w some front. true_false (sym (mark_begins front) ∙ e) }

settled_mark : Settled (239 ∷ 187 ∷ 191 ∷ [])
settled_mark = record { more = λ w. refl; past = λ w some front. some (mark_ends front) }

nil_cons : (b : ℕ) (w : List ℕ) → (b ∷ w) ≢ []
nil_cons b w h = cc

settled_push : (h : List ℕ) (b : ℕ) → Settled h → Settled (h ++ (b ∷ []))
settled_push h b s = record {
  more = λ w. rw (append_assoc h (b ∷ []) w, s.more (b ∷ w), s.more (b ∷ [])) (sym (append_assoc (unmarked h) (b ∷ []) w));
  past = λ w some front. s.past (b ∷ w) (nil_cons b w) (rw (append_assoc h (b ∷ []) w) at front);
}

-- how much of a byte order mark these bytes are
pub data MarkFits : List ℕ → Mark → Type 0 where
  unread : MarkFits [] Unread
  one_read : MarkFits (239 ∷ []) FirstByte
  two_read : MarkFits (239 ∷ 187 ∷ []) SecondByte
  passed : (h : List ℕ) → Settled h → MarkFits h Passed

-- a scan stands where all these bytes lead, mark and counts included
pub record FitsAll (h : List ℕ) (s : Scan) : Type 0 where
  pub mark : MarkFits h s.mark
  pub count : s.count ≡ length h
  -- what was read from the start fits
  pub fits : Fits (unmarked h) s

-- what one more byte gives: a scan that fits, or the fault that the byte decides
abbrev pub Outcome : List ℕ → ℕ → Result Scan TextFault → Type 0
Outcome h b (Ok s) = FitsAll (h ++ (b ∷ [])) s × ((found : TextFault) → Decides h b found → ⊥)
Outcome h b (Err found) = Decides h b found

length-push : (xs : List ℕ) (b : ℕ) → length (xs ++ (b ∷ [])) ≡ length xs + 1
length-push [] b = refl
length-push (x ∷ xs) b = let h = length-push xs b in omega (arith, h)

-- a byte that is no more of a byte order mark
record Plain (h : List ℕ) (b : ℕ) : Type 0 where
  pub settled : Settled (h ++ (b ∷ []))
  pub joined : unmarked (h ++ (b ∷ [])) ≡ unmarked h ++ (b ∷ [])
  pub apart : IsMarkFront (h ++ (b ∷ [])) → ⊥
  pub not_one : h ≢ 239 ∷ []
  pub not_two : h ≢ 239 ∷ 187 ∷ []

plain_none : (h : List ℕ) (b : ℕ) (p : Plain h b) → length h ≢ 67108864 → ((found : TextFault) → DecidesWithin (unmarked h) b found → ⊥) → (found : TextFault) → Decides h b found → ⊥
plain_none _ b p short none _ (long_file h _ long) = short long
plain_none _ b p short none _ (broken_at_two _ other) = p.not_one refl
plain_none _ b p short none _ (broken_at_three _ other) = p.not_two refl
plain_none _ b p short none found (behind_mark h _ _ fits apart decides) = none found decides

plain_outcome : (h : List ℕ) (b count : ℕ) (p : Plain h b) → count ≡ length h → length h ≢ 67108864 → (o : Result Scan TextFault) → OutcomeWithin (unmarked h) b count o → Outcome h b o
plain_outcome h b count p counts short (Ok s) out = (
  record {
    mark = rw (out.1) (passed (h ++ (b ∷ [])) p.settled);
    count = out.2 ∙ rw (counts) (sym (length-push h b));
    fits = rw (p.joined) out.0;
  },
  plain_none h b p short out.3,
)
plain_outcome h b count p counts short (Err found) out = behind_mark h b found short p.apart out

plain_first : (b : ℕ) → (b == 239) ≡ false → Plain [] b
plain_first b e = record { settled = settled_plain b e; joined = rw e refl; apart = λ front. true_false (sym (mark_begins front) ∙ e); not_one = λ h. cc; not_two = λ h. cc }

some_one : (b : ℕ) → (b ∷ []) ≢ []
some_one b h = cc

plain_settled : (h : List ℕ) (b : ℕ) → Settled h → Plain h b
plain_settled h b s = record {
  settled = settled_push h b s;
  joined = s.more (b ∷ []);
  apart = s.past (b ∷ []) (some_one b);
  not_one = λ e. s.past (187 ∷ []) (some_one 187) (rw e two_bytes);
  not_two = λ e. s.past (191 ∷ []) (some_one 191) (rw e whole_mark);
}

-- a byte of the mark decides nothing
mark_none : (h : List ℕ) (b : ℕ) → length h ≢ 67108864 → IsMarkFront (h ++ (b ∷ [])) → ((h ≡ 239 ∷ []) → b ≡ 187) → ((h ≡ 239 ∷ 187 ∷ []) → b ≡ 191) → (found : TextFault) → Decides h b found → ⊥
mark_none _ b short front one two _ (long_file h _ long) = short long
mark_none _ b short front one two _ (broken_at_two _ other) = other (one refl)
mark_none _ b short front one two _ (broken_at_three _ other) = other (two refl)
mark_none _ b short front one two found (behind_mark h _ _ fits apart decides) = apart front

same_fits : (body : List ℕ) (s : Scan) (mark : Mark) → Fits body s → Fits body (scan_with_mark s mark)
same_fits body s mark f = record { reading = f.reading; state = f.state; read = f.read; nested = f.nested; is = rw (f.is) refl }

other_byte : (b n : ℕ) → (b == n) ≡ false → b ≢ n
other_byte b n e h = grind (arith, nat_tests, e, h)

scan_outcome : (body : List ℕ) (b : ℕ) (s : Scan) → Fits body s → OutcomeWithin body b s.count (scan_after_item_byte s b)
scan_outcome body b s f = subst (λ u. OutcomeWithin body b s.count (scan_after_item_byte u b)) (sym f.is) (item_outcome body b s.count s.mark f.reading f.state f.read f.nested)

mark_outcome : (h : List ℕ) (s : Scan) (b : ℕ) (mark : Mark) → MarkFits h mark → s.count ≡ length h → length h ≢ 67108864 → Fits (unmarked h) s → Outcome h b (scan_after_at mark s b)
mark_outcome _ s b _ unread count short fits =
    choose (Outcome [] b) (b == 239) _ _
    (λ e. rw (equal b 239 e) (record { mark = one_read; count = rw (count) refl; fits = same_fits [] s FirstByte fits }, mark_none [] 239 short one_byte (λ h. absurd (cc)) (λ h. absurd (cc))))
    (λ e. plain_outcome [] b s.count (plain_first b e) count short (scan_after_item_byte s b) (scan_outcome [] b s fits))
mark_outcome _ s b _ one_read count short fits =
    choose (Outcome (239 ∷ []) b) (b == 187) _ _
    (λ e. rw (equal b 187 e) (record { mark = two_read; count = rw (count) refl; fits = same_fits [] s SecondByte fits }, mark_none (239 ∷ []) 187 short two_bytes (λ h. refl) (λ h. absurd (cc))))
    (λ e. broken_at_two b (other_byte b 187 e))
mark_outcome _ s b _ two_read count short fits =
    choose (Outcome (239 ∷ 187 ∷ []) b) (b == 191) _ _
    (λ e. rw (equal b 191 e) (record { mark = passed (239 ∷ 187 ∷ 191 ∷ []) settled_mark; count = rw (count) refl; fits = same_fits [] s Passed fits }, mark_none (239 ∷ 187 ∷ []) 191 short whole_mark (λ h. absurd (cc)) (λ h. refl)))
    (λ e. broken_at_three b (other_byte b 191 e))
mark_outcome _ s b _ (passed h settled) count short fits = plain_outcome h b s.count (plain_settled h b settled) count short (scan_after_item_byte s b) (scan_outcome (unmarked h) b s fits)

-- the line of a scan is that behind its bytes
pub line_is : (h : List ℕ) (s : Scan) → FitsAll h s → s.line ≡ line_after h
line_is h s f = ap (λ u. u.line) f.fits.is ∙ (standing (unmarked h) f.fits.reading f.fits.read).line ∙ line_unmarked h

-- Each byte is answered as the definition has it.
pub step_outcome : (h : List ℕ) (s : Scan) (b : ℕ) → FitsAll h s → Outcome h b (scan_after s b)
step_outcome h s b f =
    choose (Outcome h b) (s.count == 67108864) _ _
    (λ e. rw (line_is h s f) (long_file h b (sym f.count ∙ equal s.count 67108864 e)))
    (λ e. mark_outcome h s b s.mark f.mark f.count (λ long. other_byte s.count 67108864 e (f.count ∙ long)) f.fits)

-- the first scan fits no byte
pub fits_start : FitsAll [] start_scan
fits_start = record { mark = unread; count = refl; fits = record { reading = first; state = at_start; read = refl; nested = refl; is = refl } }

-- Over bytes.
fits_on : (h : List ℕ) (b : ℕ) (bs : List ℕ) (o : Result Scan TextFault) (t : Scan) → Outcome h b o → ((s : Scan) → FitsAll (h ++ (b ∷ [])) s → scan_after_bytes s bs ≡ Ok t → FitsAll ((h ++ (b ∷ [])) ++ bs) t) → and_then o (λ s. scan_after_bytes s bs) ≡ Ok t → FitsAll (h ++ (b ∷ bs)) t
fits_on h b bs (Ok s) t out on e = subst (λ u. FitsAll u t) (append_assoc h (b ∷ []) bs) (on s out.0 e)
fits_on h b bs (Err found) t out on e = absurd (cc)

ok_same : {s t : Scan} → ◌≡◌ {A = Result Scan TextFault} (Ok s) (Ok t) → s ≡ t
ok_same h = cc

-- a scan that fits still fits behind further bytes that are read
pub fits_reads : (h : List ℕ) (s t : Scan) (w : List ℕ) → FitsAll h s → scan_after_bytes s w ≡ Ok t → FitsAll (h ++ w) t
fits_reads h s t [] f e = let same : s ≡ t = ok_same e in rw (append-nil h, ← same) f
fits_reads h s t (b ∷ bs) f e = fits_on h b bs (scan_after s b) t (step_outcome h s b f) (λ u g k. fits_reads (h ++ (b ∷ [])) u t bs g k) e

-- what was read from the start fits
pub fits : (h : List ℕ) (s : Scan) → scan_after_bytes start_scan h ≡ Ok s → FitsAll h s
fits h s e = fits_reads [] start_scan s h fits_start e

-- bytes in two parts are read one behind the other
pub reads-append : (s : Scan) (u v : List ℕ) → scan_after_bytes s (u ++ v) ≡ and_then (scan_after_bytes s u) (λ t. scan_after_bytes t v)
reads-append s [] v = refl
reads-append s (b ∷ u) v = elim (scan_after s b) as (λ o. and_then o (λ t. scan_after_bytes t (u ++ v)) ≡ and_then (and_then o (λ t. scan_after_bytes t u)) (λ t. scan_after_bytes t v)) [ Err found ↦ refl | Ok t ↦ reads-append t u v ]

-- the same, where the first part is read
pub reads_then : (s t : Scan) (u v : List ℕ) (o : Result Scan TextFault) → scan_after_bytes s u ≡ Ok t → scan_after_bytes t v ≡ o → scan_after_bytes s (u ++ v) ≡ o
reads_then s t u v o h k = reads-append s u v ∙ rw h k

no_fault_on : (before : List ℕ) (b : ℕ) (rest : List ℕ) (found : TextFault) (o : Result Scan TextFault) (t : Scan) → scan_after_bytes start_scan before ≡ o → and_then o (λ s. scan_after_bytes s (b ∷ rest)) ≡ Ok t → Decides before b found → ⊥
no_fault_on before b rest found (Err other) t e h d = absurd (cc)
no_fault_on before b rest found (Ok s) t e h d = on (scan_after s b) (step_outcome before s b (fits before s e)) h
  where
    on : (o : Result Scan TextFault) → Outcome before b o → and_then o (λ u. scan_after_bytes u rest) ≡ Ok t → ⊥
    on (Ok u) out k = out.1 found d
    on (Err other) out k = cc

-- no byte of what was read decides a fault
pub no_fault : (h : List ℕ) (s : Scan) → scan_after_bytes start_scan h ≡ Ok s → NoFault h
no_fault h s e before b rest found joined d = no_fault_on before b rest found (scan_after_bytes start_scan before) s refl (sym (reads-append start_scan before (b ∷ rest)) ∙ ap (scan_after_bytes start_scan) (sym joined) ∙ e) d

-- the fault of the byte behind it is the first
pub first_fault : (h : List ℕ) (s : Scan) (b : ℕ) (rest bytes : List ℕ) (found : TextFault) → scan_after_bytes start_scan h ≡ Ok s → scan_after s b ≡ Err found → bytes ≡ h ++ (b ∷ rest) → FirstFault bytes found
first_fault h s b rest bytes found e stepped_is joined = record {
  before = h;
  byte = b;
  rest = rest;
  joined = joined;
  decides = subst (Outcome h b) stepped_is (step_outcome h s b (fits h s e));
  first = no_fault h s e;
}
