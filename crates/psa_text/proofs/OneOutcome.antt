-- A text has one outcome. Where a byte decides a fault, the machine answers this fault: so it decides one alone.
use Rattle.std.specs.Prelude.{◌≡◌, ◌≢◌, ℕ, Bool, true, false, ◌&&◌, ◌==◌, List, [], ◌∷◌, ◌++◌, length, Option, Some, None, Result, Ok, Err}
use Rattle.std.proofs.Common.{refl, sym, ◌∙◌, ap, subst, arith, append_assoc, append-nil}
use Rattle.std.proofs.lemmas.Bool.Decides.{nat_tests}
use Rattle.psa_text.specs.declared.tree.Element.{Element}
use Rattle.psa_text.specs.declared.scanner.item.Item.{Item}
use Rattle.psa_text.specs.declared.scanner.mark.Mark.{Mark}
use Rattle.psa_text.specs.declared.scanner.mark.Mark.TheVariants.{FirstByte, SecondByte}
use Rattle.psa_text.specs.declared.scanner.error.TextFault.{TextFault}
use Rattle.psa_text.specs.declared.scanner.error.TextKind.TheVariants.{LongFile, BadMarkup, LongToken, BadNesting}
use Rattle.psa_text.specs.scanner.Nesting.{State, at_start, nesting_after_item}
use Rattle.psa_text.specs.TextBytes.{is_name_start, line_after}
use Rattle.psa_text.specs.TextItems.{Placed, AreItems, IsFront, IsItem}
use Rattle.psa_text.specs.TextTree.{IsDocument, IsDocumentFront}
use Rattle.psa_text.specs.TextFaults.{IsMarkFront, one_byte, two_bytes, whole_mark, unmarked, IsWithin, IsLong, IsBadEnd, element_count, fault, DecidesWithin, many_elements, no_front, bad_end, long_token, bad_nesting, Decides, long_file, broken_at_two, broken_at_three, behind_mark, NoFault, FirstFault, IsTree, EndsIn, in_item, no_tree}
use Rattle.psa_text.specs.TextOutcome.{IsRead, tree, inside, at_end}
use Rattle.psa_text.specs.scanner.Machine.{Lex, Between, Opened, Name, Next, Broken, Within, Whole, next, is_long, is_bad_end, begins_tag}
use Rattle.psa_text.specs.scanner.View.{judgement_of}
use Rattle.psa_text.specs.scanner.State.{Scan, start_scan, scan_after_item, scan_after_judged, scan_after_item_byte, scan_after_at, scan_after, and_then, scan_after_bytes, root_at_end}
use Rattle.psa_text.proofs.OneReading.{same_items, same_tree}
use Rattle.psa_text.proofs.scanner.StatesReached.{choose, and_true, Reached, at_between, Went, item_step}
use Rattle.psa_text.proofs.scanner.ItemsRun.{run, onward, ended, then_run, item_run}
use Rattle.psa_text.proofs.scanner.TreesNest.{nests, nests_then}
use Rattle.psa_text.proofs.scanner.ReadingsStand.{Reading, first, read_next, read_all, read_one, at_lex, standing, live_front, dead_front, part_read, items_read}
use Rattle.psa_text.proofs.scanner.ItemFaults.{bad_sound, bad_complete}
use Rattle.psa_text.proofs.scanner.FirstFaults.{long_complete, scan_at, Fits, MarkFits, unread, one_read, two_read, passed, FitsAll, nested_front, line_is, fits, reads_then, first_fault}
use Rattle.psa_text.proofs.scanner.RootsAtEnd.{end_ok, end_err}

some_same : {A : Type 0} {x y : A} → Some x ≡ Some y → x ≡ y
some_same h = cc

true_false : true ≡ false → ⊥
true_false h = cc

-- The machine over the part of an item.
record RunTo (p : Lex) (w part : List ℕ) (b : ℕ) (more : List ℕ) (item : Item) : Type 0 where
  pub state : Lex
  pub ran : run p part ≡ Within state
  pub reached : Reached state (w ++ part)
  pub ends : run state (b ∷ more) ≡ Whole item

not_over : (item other : Item) (part : List ℕ) (b : ℕ) (more : List ℕ) → ended other (part ++ (b ∷ more)) ≡ Whole item → ⊥
not_over item other [] b more h = cc
not_over item other (c ∷ part) b more h = cc

run_on : (p : Lex) (w : List ℕ) (c : ℕ) (part : List ℕ) (b : ℕ) (more : List ℕ) (item : Item) (n : Next) → ((q : Lex) → Reached q (w ++ (c ∷ [])) → run q (part ++ (b ∷ more)) ≡ Whole item → RunTo q (w ++ (c ∷ [])) part b more item) → next p c ≡ n → Went (w ++ (c ∷ [])) n → onward (part ++ (b ∷ more)) n ≡ Whole item → RunTo p w (c ∷ part) b more item
run_on p w c part b more item Broken on e went h = absurd (cc)
run_on p w c part b more item (Within q) on e went h =
    let k = on q went h in
    record { state = k.state; ran = then_run p q c part _ e k.ran; reached = subst (Reached k.state) (append_assoc w (c ∷ []) part) k.reached; ends = k.ends }
run_on p w c part b more item (Whole other) on e went h = absurd (not_over item other part b more h)

run_to : (p : Lex) (w part : List ℕ) (b : ℕ) (more : List ℕ) (item : Item) → Reached p w → run p (part ++ (b ∷ more)) ≡ Whole item → RunTo p w part b more item
run_to p w [] b more item reached h = record { state = p; ran = refl; reached = rw (append-nil w) reached; ends = h }
run_to p w (c ∷ part) b more item reached h =
    run_on p w c part b more item (next p c) (λ q went k. run_to q (w ++ (c ∷ [])) part b more item went k) refl (item_step c reached) h

-- the machine runs over the front of an item
front_run : (part : List ℕ) (b : ℕ) (more : List ℕ) (item : Item) → IsItem item (part ++ (b ∷ more)) → RunTo Between [] part b more item
front_run part b more item is = run_to Between [] part b more item at_between (item_run is)

between_part : {w : List ℕ} → Reached Between w → w ≡ []
between_part at_between = refl

-- what a reading is behind items and a part of one
record PartRead (r : Reading) (items : List Placed) (line : ℕ) (part : List ℕ) : Type 0 where
  pub items_are : r.items ≡ items
  pub start : r.start ≡ line
  pub reached : Reached r.lex part
  pub within : r.lex ≢ Between

same_reading : (bytes : List ℕ) (r s : Reading) → read_all first bytes ≡ Some r → read_all first bytes ≡ Some s → r ≡ s
same_reading bytes r s h k = some_same (sym h ∙ k)

within_read : (body : List ℕ) (r : Reading) (items : List Placed) (line : ℕ) (part : List ℕ) → read_all first body ≡ Some r → IsWithin body items line part → PartRead r items line part
within_read body r items line part read is =
    let p = is.is_part in
    let k = front_run part p.byte p.more p.item p.is_item in
    let same : r ≡ at_lex items is.before (is.before ++ part) k.state = same_reading body r _ read (ap (read_all first) is.joined ∙ part_read items is.before part k.state is.are k.ran) in
    let reached : Reached r.lex part = subst (λ q. Reached q part) (sym (ap (λ x. x.lex) same)) k.reached in
    record {
      items_are = ap (λ x. x.items) same;
      start = ap (λ x. x.start) same ∙ sym is.at;
      reached = reached;
      within = λ e. p.some (between_part (subst (λ q. Reached q part) e reached));
    }

-- The machine behind `<`, where a byte begins a name.
opened_next : (p : Lex) (b : ℕ) → begins_tag p b ≡ true → next p b ≡ Within (Name (b ∷ []))
opened_next Opened b h = rw h refl
opened_next _ b h = absurd (cc)

opened_good : (p : Lex) (b : ℕ) → begins_tag p b ≡ true → is_bad_end p b ≡ true → ⊥
opened_good Opened b h bad = cc
opened_good _ b h bad = absurd (cc)

-- the byte begins one element more than a text may have
abbrev begins_one_more : Reading → ℕ → Bool
begins_one_more r b = (element_count r.items == 1000000) && begins_tag r.lex b

-- what the machine answers in each case
by_step : (mark : Mark) (count : ℕ) (r : Reading) (t : State) (b : ℕ) (found : TextFault)
    → (begins_one_more r b ≡ true → fault LongFile r.line ≡ found)
    → (is_bad_end r.lex b ≡ true → fault BadMarkup r.start ≡ found)
    → (is_bad_end r.lex b ≡ false → (n : Next) → next r.lex b ≡ n → scan_after_judged (scan_at mark count r t) b (judgement_of n) ≡ Err found)
    → scan_after_item_byte (scan_at mark count r t) b ≡ Err found
by_step mark count r t b found many bad rest =
    choose (λ o. o ≡ Err found) (begins_one_more r b) _ _ (λ e. ap Err (many e))
    (λ _. choose (λ j. scan_after_judged (scan_at mark count r t) b j ≡ Err found) (is_bad_end r.lex b) _ _
    (λ e. ap Err (bad e)) (λ e. rest e (next r.lex b) refl))

begins : (r : Reading) (b : ℕ) → begins_one_more r b ≡ true → begins_tag r.lex b ≡ true
begins r b e = (and_true (element_count r.items == 1000000) (begins_tag r.lex b) e).1

went : (body : List ℕ) (r : Reading) (b : ℕ) (n : Next) → read_all first body ≡ Some r → next r.lex b ≡ n → read_all first (body ++ (b ∷ [])) ≡ read_next r b n
went body r b n read h = read_one first r body b read ∙ ap (read_next r b) h

-- The machine answers the fault that each rule names.
many_answer : (body : List ℕ) (b : ℕ) (mark : Mark) (count : ℕ) (r : Reading) (t : State) (items : List Placed) (line : ℕ) → read_all first body ≡ Some r → IsWithin body items line (60 ∷ []) → is_name_start b ≡ true → element_count items ≡ 1000000 → scan_after_item_byte (scan_at mark count r t) b ≡ Err (fault LongFile (line_after body))
many_answer body b mark count r t items line read is start many =
    let same = same_reading body r _ read (ap (read_all first) is.joined ∙ part_read items is.before (60 ∷ []) Opened is.are refl) in
    let test : begins_one_more r b ≡ true = rw (same, many, start) refl in
    rw test (ap (λ n. Err (fault LongFile n)) (standing body r read).line)

front_answer : (body : List ℕ) (b : ℕ) (mark : Mark) (count : ℕ) (r : Reading) (t : State) (items : List Placed) (line : ℕ) (part : List ℕ) → read_all first body ≡ Some r → (IsFront (body ++ (b ∷ [])) → ⊥) → IsWithin body items line part → scan_after_item_byte (scan_at mark count r t) b ≡ Err (fault BadMarkup line)
front_answer body b mark count r t items line part read dead is =
    by_step mark count r t b (fault BadMarkup line)
    (λ e. absurd (dead (live_front (body ++ (b ∷ [])) _ (went body r b _ read (opened_next r.lex b (begins r b e))))))
    (λ _. ap (fault BadMarkup) begun)
    (λ _. on)
  where
    begun : r.start ≡ line
    begun = (within_read body r items line part read is).start

    on : (n : Next) → next r.lex b ≡ n → scan_after_judged (scan_at mark count r t) b (judgement_of n) ≡ Err (fault BadMarkup line)
    on Broken e = ap (λ x. Err (fault BadMarkup x)) begun
    on (Within q) e = absurd (dead (live_front (body ++ (b ∷ [])) _ (went body r b (Within q) read e)))
    on (Whole item) e = absurd (dead (live_front (body ++ (b ∷ [])) _ (went body r b (Whole item) read e)))

bad_answer : (body : List ℕ) (b : ℕ) (mark : Mark) (count : ℕ) (r : Reading) (t : State) (items : List Placed) (line : ℕ) (part : List ℕ) → read_all first body ≡ Some r → IsWithin body items line part → IsBadEnd part b → scan_after_item_byte (scan_at mark count r t) b ≡ Err (fault BadMarkup line)
bad_answer body b mark count r t items line part read is bad =
    let ends = bad_complete bad in
    let same = same_reading body r _ read (ap (read_all first) is.joined ∙ part_read items is.before part ends.state is.are ends.ran) in
    let test : is_bad_end r.lex b ≡ true = ap (λ x. is_bad_end x.lex b) same ∙ ends.bad in
    by_step mark count r t b (fault BadMarkup line)
    (λ e. absurd (opened_good r.lex b (begins r b e) test))
    (λ _. ap (fault BadMarkup) (within_read body r items line part read is).start)
    (λ good n e. absurd (true_false (sym test ∙ good)))

long_answer : (body : List ℕ) (b : ℕ) (mark : Mark) (count : ℕ) (r : Reading) (t : State) (items : List Placed) (line : ℕ) (part : List ℕ) → read_all first body ≡ Some r → IsFront (body ++ (b ∷ [])) → IsWithin body items line part → IsLong (part ++ (b ∷ [])) → (IsBadEnd part b → ⊥) → scan_after_item_byte (scan_at mark count r t) b ≡ Err (fault LongToken line)
long_answer body b mark count r t items line part read live is long other =
    by_step mark count r t b (fault LongToken line)
    (λ e. absurd (true_false (sym (long_at _ (went body r b _ read (opened_next r.lex b (begins r b e)))))))
    (λ e. absurd (other (bad_sound b at.reached e)))
    (λ _. on)
  where
    at : PartRead r items line part
    at = within_read body r items line part read is

    long_at : (s : Reading) → read_all first (body ++ (b ∷ [])) ≡ Some s → is_long s.lex ≡ true
    long_at s h = long_complete long items is.before s is.are (ap (read_all first) (sym (ap (λ x. x ++ (b ∷ [])) is.joined ∙ append_assoc is.before part (b ∷ []))) ∙ h)

    on : (n : Next) → next r.lex b ≡ n → scan_after_judged (scan_at mark count r t) b (judgement_of n) ≡ Err (fault LongToken line)
    on Broken e = absurd (dead_front (body ++ (b ∷ [])) (went body r b Broken read e) live)
    on (Within q) e = rw (long_at _ (went body r b (Within q) read e)) (ap (λ x. Err (fault LongToken x)) at.start)
    on (Whole item) e = absurd (true_false (sym (long_at _ (went body r b (Whole item) read e))))

last_next : (item : Item) (n : Next) → onward [] n ≡ Whole item → n ≡ Whole item
last_next item Broken h = absurd (cc)
last_next item (Within q) h = absurd (cc)
last_next item (Whole other) h = h

nesting_answer : (body : List ℕ) (b : ℕ) (mark : Mark) (count : ℕ) (r : Reading) (t : State) (items : List Placed) (start part : List ℕ) (item : Item) → read_all first body ≡ Some r → nests r.items at_start ≡ Some t → AreItems items start → body ≡ start ++ part → IsItem item (part ++ (b ∷ [])) → (IsBadEnd part b → ⊥) → (IsDocumentFront (items ++ ((item, line_after start) ∷ [])) → ⊥) → scan_after_item_byte (scan_at mark count r t) b ≡ Err (fault BadNesting (line_after start))
nesting_answer body b mark count r t items start part item read nested are joined is other refused =
    by_step mark count r t b (fault BadNesting (line_after start))
    (λ e. let k : Within (Name (b ∷ [])) ≡ Whole item = sym (opened_next r.lex b (begins r b e)) ∙ whole in absurd (cc))
    (λ e. absurd (other (bad_sound b (subst (λ q. Reached q part) (sym (ap (λ x. x.lex) same)) k.reached) e)))
    (λ _ n e. subst (λ m. scan_after_judged (scan_at mark count r t) b (judgement_of m) ≡ Err (fault BadNesting (line_after start))) (sym whole ∙ e) (on (nesting_after_item item r.start t) refl))
  where
    k : RunTo Between [] part b [] item
    k = front_run part b [] item is

    same : r ≡ at_lex items start (start ++ part) k.state
    same = same_reading body r _ read (ap (read_all first) joined ∙ part_read items start part k.state are k.ran)

    whole : next r.lex b ≡ Whole item
    whole = ap (λ x. next x.lex b) same ∙ last_next item (next k.state b) k.ends

    begun : r.start ≡ line_after start
    begun = ap (λ x. x.start) same

    on : (o : Option State) → nesting_after_item item r.start t ≡ o → scan_after_item (scan_at mark count r t) b item o ≡ Err (fault BadNesting (line_after start))
    on None h = ap (λ x. Err (fault BadNesting x)) begun
    on (Some u) h = absurd (refused (nested_front (items ++ ((item, line_after start) ∷ [])) u (nests_then items ((item, line_after start) ∷ []) at_start t (Some u) (ap (λ x. nests x.items at_start) (sym same) ∙ nested) (rw (ap (λ x. nesting_after_item item x t) (sym begun) ∙ h) refl))))

within_answer : (body : List ℕ) (b : ℕ) (mark : Mark) (count : ℕ) (r : Reading) (t : State) (found : TextFault) → read_all first body ≡ Some r → nests r.items at_start ≡ Some t → DecidesWithin body b found → scan_after_item_byte (scan_at mark count r t) b ≡ Err found
within_answer body b mark count r t _ read nested (many_elements _ _ items line is start many) = many_answer body b mark count r t items line read is start many
within_answer body b mark count r t _ read nested (no_front _ _ items line part dead is) = front_answer body b mark count r t items line part read dead is
within_answer body b mark count r t _ read nested (bad_end _ _ items line part is bad) = bad_answer body b mark count r t items line part read is bad
within_answer body b mark count r t _ read nested (long_token _ _ items line part live is long other) = long_answer body b mark count r t items line part read live is long other
within_answer body b mark count r t _ read nested (bad_nesting _ _ items start part item are joined is other front refused) = nesting_answer body b mark count r t items start part item read nested are joined is other refused

fits_answer : (body : List ℕ) (s : Scan) (b : ℕ) (found : TextFault) → Fits body s → DecidesWithin body b found → scan_after_item_byte s b ≡ Err found
fits_answer body s b found f decides = subst (λ u. scan_after_item_byte u b ≡ Err found) (sym f.is) (within_answer body b s.mark s.count f.reading f.state found f.read f.nested decides)

-- A byte behind nothing decides at most that it is a text out of place.
nil_join : (u part : List ℕ) → [] ≡ u ++ part → (u ≡ []) × (part ≡ [])
nil_join [] part h = (refl, sym h)
nil_join (x ∷ u) part h = absurd (cc)

not_within : (items : List Placed) (line : ℕ) (part : List ℕ) → IsWithin [] items line part → ⊥
not_within items line part is = is.is_part.some (nil_join is.before part is.joined).1

decides_first : (b : ℕ) (found : TextFault) → DecidesWithin [] b found → fault BadNesting 1 ≡ found
decides_first b _ (many_elements _ _ items line is start many) = absurd (not_within items line (60 ∷ []) is)
decides_first b _ (no_front _ _ items line part dead is) = absurd (not_within items line part is)
decides_first b _ (bad_end _ _ items line part is bad) = absurd (not_within items line part is)
decides_first b _ (long_token _ _ items line part live is long other) = absurd (not_within items line part is)
decides_first b _ (bad_nesting _ _ items start part item are joined is other front refused) = ap (λ x. fault BadNesting (line_after x)) (sym (nil_join start part joined).0)

-- The byte order mark.
not_byte : (b n : ℕ) → b ≢ n → (b == n) ≡ false
not_byte b n h = grind (arith, nat_tests, h)

mark_first : (m : Mark) → MarkFits (239 ∷ []) m → m ≡ FirstByte
mark_first _ one_read = refl
mark_first _ (passed _ s) = absurd (s.past (187 ∷ []) (λ h. cc) two_bytes)

mark_second : (m : Mark) → MarkFits (239 ∷ 187 ∷ []) m → m ≡ SecondByte
mark_second _ two_read = refl
mark_second _ (passed _ s) = absurd (s.past (191 ∷ []) (λ h. cc) whole_mark)

second_answer : (s : Scan) (b : ℕ) → b ≢ 187 → scan_after_at FirstByte s b ≡ Err (fault BadNesting 1)
second_answer s b other = rw (not_byte b 187 other) refl

third_answer : (s : Scan) (b : ℕ) → b ≢ 191 → scan_after_at SecondByte s b ≡ Err (fault BadNesting 1)
third_answer s b other = rw (not_byte b 191 other) refl

mark_answer : (h : List ℕ) (s : Scan) (b : ℕ) (found : TextFault) (mark : Mark) → MarkFits h mark → (IsMarkFront (h ++ (b ∷ [])) → ⊥) → Fits (unmarked h) s → DecidesWithin (unmarked h) b found → scan_after_at mark s b ≡ Err found
mark_answer _ s b found _ unread apart f decides = rw (not_byte b 239 (λ e. apart (rw e one_byte))) (fits_answer [] s b found f decides)
mark_answer _ s b found _ one_read apart f decides = second_answer s b (λ e. apart (rw e two_bytes)) ∙ ap Err (decides_first b found decides)
mark_answer _ s b found _ two_read apart f decides = third_answer s b (λ e. apart (rw e whole_mark)) ∙ ap Err (decides_first b found decides)
mark_answer _ s b found _ (passed h settled) apart f decides = fits_answer (unmarked h) s b found f decides

short_answer : (s : Scan) (b n : ℕ) (o : Result Scan TextFault) → s.count ≡ n → n ≢ 67108864 → scan_after_at s.mark s b ≡ o → scan_after s b ≡ o
short_answer s b n o count short h = rw (not_byte s.count 67108864 (λ e. short (sym count ∙ e))) h

-- a byte that decides a fault is answered by this fault
pub decides_answer : (h : List ℕ) (s : Scan) (b : ℕ) (found : TextFault) → FitsAll h s → Decides h b found → scan_after s b ≡ Err found
decides_answer _ s b _ f (long_file h _ long) =
    let test : (s.count == 67108864) ≡ true = rw (f.count, long) refl in
    rw test (ap (λ n. Err (fault LongFile n)) (line_is h s f))
decides_answer _ s b _ f (broken_at_two _ other) =
    short_answer s b 1 _ f.count (λ h. cc) (ap (λ m. scan_after_at m s b) (mark_first s.mark f.mark) ∙ second_answer s b other)
decides_answer _ s b _ f (broken_at_three _ other) =
    short_answer s b 2 _ f.count (λ h. cc) (ap (λ m. scan_after_at m s b) (mark_second s.mark f.mark) ∙ third_answer s b other)
decides_answer _ s b found f (behind_mark h _ _ short apart decides) =
    short_answer s b (length h) _ f.count short (mark_answer h s b found s.mark f.mark apart f.fits decides)

-- Each text has an outcome.
fault_on : (h : List ℕ) (s : Scan) (b : ℕ) (bs : List ℕ) (found : TextFault) (o : Result Scan TextFault) → scan_after_bytes start_scan h ≡ Ok s → scan_after s b ≡ o → ((t : Scan) → scan_after_bytes start_scan (h ++ (b ∷ [])) ≡ Ok t → scan_after_bytes t bs ≡ Err found → FirstFault ((h ++ (b ∷ [])) ++ bs) found) → and_then o (λ t. scan_after_bytes t bs) ≡ Err found → FirstFault (h ++ (b ∷ bs)) found
fault_on h s b bs found (Ok t) read e on k = subst (λ x. FirstFault x found) (append_assoc h (b ∷ []) bs) (on t (reads_then start_scan s h (b ∷ []) (Ok t) read (rw e refl)) k)
fault_on h s b bs found (Err other) read e on k = first_fault h s b bs (h ++ (b ∷ bs)) found read (e ∙ k) refl

fault_of : (h : List ℕ) (s : Scan) (bs : List ℕ) (found : TextFault) → scan_after_bytes start_scan h ≡ Ok s → scan_after_bytes s bs ≡ Err found → FirstFault (h ++ bs) found
fault_of h s [] found read e = absurd (cc)
fault_of h s (b ∷ bs) found read e = fault_on h s b bs found (scan_after s b) read refl (λ t k g. fault_of (h ++ (b ∷ [])) t bs found k g) e

abbrev Outcomes : List ℕ → Type 0
Outcomes bytes = (outcome : Result Element TextFault) × IsRead bytes outcome

end_read : (bytes : List ℕ) (s : Scan) (o : Result Element TextFault) → scan_after_bytes start_scan bytes ≡ Ok s → root_at_end s ≡ o → Outcomes bytes
end_read bytes s (Ok root) read e = let k = end_ok bytes s root read e in (Ok root, tree root k.0 k.1)
end_read bytes s (Err found) read e = let k = end_err bytes s found read e in (Err found, at_end found k.0 k.1)

scan_read : (bytes : List ℕ) (o : Result Scan TextFault) → scan_after_bytes start_scan bytes ≡ o → Outcomes bytes
scan_read bytes (Ok s) read = end_read bytes s (root_at_end s) read refl
scan_read bytes (Err found) read = (Err found, inside found (fault_of [] start_scan bytes found refl read))

-- each text comes to something
pub each_read : (bytes : List ℕ) → (outcome : Result Element TextFault) × IsRead bytes outcome
each_read bytes = scan_read bytes (scan_after_bytes start_scan bytes) refl

-- One fault.
no_first : (bytes : List ℕ) (found : TextFault) → NoFault bytes → FirstFault bytes found → ⊥
no_first bytes found none f = none f.before f.byte f.rest found f.joined f.decides

err_same : (one other : TextFault) → ◌≡◌ {A = Result Scan TextFault} (Err one) (Err other) → one ≡ other
err_same one other h = cc

decides_at : (h : List ℕ) (b : ℕ) (one other : TextFault) (o : Result Scan TextFault) → scan_after_bytes start_scan h ≡ o → NoFault h → Decides h b one → Decides h b other → one ≡ other
decides_at h b one other (Ok s) read none is same = err_same one other (sym (decides_answer h s b one (fits h s read) is) ∙ decides_answer h s b other (fits h s read) same)
decides_at h b one other (Err found) read none is same = absurd (no_first h found none (fault_of [] start_scan h found refl read))

-- a byte behind bytes that decide no fault decides one at most
pub decides_one : (h : List ℕ) (b : ℕ) (one other : TextFault) → NoFault h → Decides h b one → Decides h b other → one ≡ other
decides_one h b one other none is same = decides_at h b one other (scan_after_bytes start_scan h) refl none is same

-- two fronts of a list, each up to one of its items
data Fronts : List ℕ → ℕ → List ℕ → ℕ → Type 0 where
  same_front : (u : List ℕ) (b : ℕ) → Fronts u b u b
  shorter : (u : List ℕ) (b c : ℕ) (more : List ℕ) → Fronts u b (u ++ (b ∷ more)) c
  longer : (u : List ℕ) (b c : ℕ) (more : List ℕ) → Fronts (u ++ (b ∷ more)) c u b

fronts_push : (x : ℕ) {u v : List ℕ} {b c : ℕ} → Fronts u b v c → Fronts (x ∷ u) b (x ∷ v) c
fronts_push x (same_front u b) = same_front (x ∷ u) b
fronts_push x (shorter u b c more) = shorter (x ∷ u) b c more
fronts_push x (longer u b c more) = longer (x ∷ u) b c more

fronts_of : (u v : List ℕ) (b c : ℕ) (rest more : List ℕ) → u ++ (b ∷ rest) ≡ v ++ (c ∷ more) → Fronts u b v c
fronts_of [] [] b c rest more h = let e : b ≡ c = cc in rw e (same_front [] c)
fronts_of [] (y ∷ v) b c rest more h = let e : b ≡ y = cc in rw e (shorter [] y c v)
fronts_of (x ∷ u) [] b c rest more h = let e : x ≡ c = cc in rw e (longer [] c b u)
fronts_of (x ∷ u) (y ∷ v) b c rest more h = let e : x ≡ y = cc in rw e (fronts_push y (fronts_of u v b c rest more (cc)))

by_fronts : {u v : List ℕ} {b c : ℕ} (one other : TextFault) → Fronts u b v c → NoFault u → NoFault v → Decides u b one → Decides v c other → one ≡ other
by_fronts one other (same_front u b) none _ is same = decides_one u b one other none is same
by_fronts one other (shorter u b c more) _ none is same = absurd (none u b more one refl is)
by_fronts one other (longer u b c more) none _ is same = absurd (none u b more other refl same)

-- a text has one first fault at most
pub first_one : (bytes : List ℕ) (one other : TextFault) → FirstFault bytes one → FirstFault bytes other → one ≡ other
first_one bytes one other f g =
    by_fronts one other (fronts_of f.before g.before f.byte g.byte f.rest g.rest (sym f.joined ∙ g.joined)) f.first g.first f.decides g.decides

-- The end.
not_whole : (body : List ℕ) (items others : List Placed) (line : ℕ) (part : List ℕ) → AreItems items body → IsWithin body others line part → ⊥
not_whole body items others line part are is = (within_read body _ others line part (items_read are) is).within refl

within_one : (body : List ℕ) (items others : List Placed) (line at : ℕ) (part more : List ℕ) → IsWithin body items line part → IsWithin body others at more → line ≡ at
within_one body items others line at part more is same =
    let p = is.is_part in
    let k = front_run part p.byte p.more p.item p.is_item in
    let read = ap (read_all first) is.joined ∙ part_read items is.before part k.state is.are k.ran in
    sym (within_read body _ items line part read is).start ∙ (within_read body _ others at more read same).start

-- a text ends in one fault at most
pub ends_one : (bytes : List ℕ) (one other : TextFault) → EndsIn bytes one → EndsIn bytes other → one ≡ other
ends_one bytes _ _ (in_item _ items line part is) (in_item _ others at more same) = ap (fault BadMarkup) (within_one (unmarked bytes) items others line at part more is same)
ends_one bytes _ _ (in_item _ items line part is) (no_tree _ others are none) = absurd (not_whole (unmarked bytes) others items line part are is)
ends_one bytes _ _ (no_tree _ items are none) (in_item _ others at more same) = absurd (not_whole (unmarked bytes) items others at more are same)
ends_one bytes _ _ (no_tree _ items are none) (no_tree _ others same nothing) = refl

-- a text that ends in a fault has no tree
pub no_tree_ends : (bytes : List ℕ) (found : TextFault) (root : Element) → EndsIn bytes found → IsTree bytes root → ⊥
no_tree_ends bytes _ root (in_item _ items line part is) t = not_whole (unmarked bytes) t.items items line part t.are is
no_tree_ends bytes _ root (no_tree _ items are none) t = none root (subst (λ x. IsDocument x root) (same_items (unmarked bytes) t.items items t.are are) t.is_document)

-- a text comes to no two things
pub reads_once : (bytes : List ℕ) (one other : Result Element TextFault) → IsRead bytes one → IsRead bytes other → one ≡ other
reads_once bytes _ _ (tree root is none) (tree other same _) = ap Ok (same_tree bytes root other is same)
reads_once bytes _ _ (tree root is none) (inside found f) = absurd (no_first bytes found none f)
reads_once bytes _ _ (tree root is none) (at_end found ends _) = absurd (no_tree_ends bytes found root ends is)
reads_once bytes _ _ (inside found f) (tree root is none) = absurd (no_first bytes found none f)
reads_once bytes _ _ (inside found f) (inside other g) = ap Err (first_one bytes found other f g)
reads_once bytes _ _ (inside found f) (at_end other ends none) = absurd (no_first bytes found none f)
reads_once bytes _ _ (at_end found ends _) (tree root is none) = absurd (no_tree_ends bytes found root ends is)
reads_once bytes _ _ (at_end found ends none) (inside other f) = absurd (no_first bytes other none f)
reads_once bytes _ _ (at_end found ends _) (at_end other same _) = ap Err (ends_one bytes found other ends same)
