-- The tree of a text is not deep, and has not many elements.
use Rattle.std.specs.Prelude.{◌≡◌, ◌≢◌, ℕ, ◌+◌, ◌≤◌, Bool, true, false, if◌then◌else◌, ◌==◌, List, [], ◌∷◌, ◌++◌, map, length}
use Rattle.std.specs.List.{sum}
use Rattle.std.proofs.Common.{refl, sym, ◌∙◌, ap, subst, arith, append_assoc, append-nil}
use Rattle.std.proofs.lemmas.Bool.Decides.{nat_tests}
use Rattle.std.proofs.lemmas.List.Sums.{sum_by-append, sum_by_push, sum-map}
use Rattle.psa_text.specs.declared.tree.Element.{Element, fold-roll-Element}
use Rattle.psa_text.specs.declared.tag.Tag.{Tag}
use Rattle.psa_text.specs.declared.scanner.item.Item.{Item}
use Rattle.psa_text.specs.declared.scanner.item.Item.TheVariants.{Start, Empty, End, Doctype, Text, Comment, Instruction}
use Rattle.psa_text.specs.declared.scanner.error.TextFault.{TextFault}
use Rattle.psa_text.specs.declared.scanner.error.TextKind.TheVariants.{LongFile}
use Rattle.psa_text.specs.TextBytes.{AllPass, is_name_start, line_after}
use Rattle.psa_text.specs.TextItems.{IsHead, head_name, head_more, IsItem, is_text, is_instruction, is_comment, is_doctype, is_start, is_empty, is_end, Placed, AreItems, no_item, and_item}
use Rattle.psa_text.specs.Tree.{element_of, greatest, depth_step, depth}
use Rattle.psa_text.specs.TreeSize.{elements_step, elements_in}
use Rattle.psa_text.specs.TextTree as tree
use Rattle.psa_text.specs.TextTree.{is_label, is_passed, IsElement, is_around, AreElements, no_element, and_passed, and_element, is_before_root, is_behind_root, IsDocument}
use Rattle.psa_text.specs.TextFaults.{IsMarkFront, one_byte, two_bytes, whole_mark, unmarked, begins_element, element_count, fault, DecidesWithin, many_elements, long_file, broken_at_two, broken_at_three, behind_mark, NoFault, IsTree}
use Rattle.psa_text.proofs.scanner.StatesReached.{choose, equal}
use Rattle.psa_text.proofs.scanner.ReadingsStand.{count-push}

-- Depth.
depth_of : (tag : Tag) (line : ℕ) (children : List Element) → depth (element_of tag line children) ≡ 1 + greatest (map depth children)
depth_of tag line children = fold-roll-Element ℕ depth_step _

greatest_push : (es : List Element) (e : Element) (n : ℕ) → greatest (map depth es) ≤ n → depth e ≤ n → greatest (map depth (es ++ (e ∷ []))) ≤ n
greatest_push [] e n h k = omega (arith, h, k)
greatest_push (x ∷ es) e n h k = let rest = greatest_push es e n (omega (arith, h)) k in omega (arith, h, rest)

mutual
  -- an element is as deep as there is room at most
  pub element_depth : {room : ℕ} {one : List Placed} {e : Element} → IsElement room one e → depth e ≤ room
  element_depth (tree.is_empty room tag line) = let h = depth_of tag line [] in omega (arith, h)
  element_depth (is_around room tag line inside children name at within same) = let h = depth_of tag line children in let k = elements_depth within in omega (arith, h, k)

  -- and so are elements
  pub elements_depth : {room : ℕ} {label : Bool} {items : List Placed} {children : List Element} → AreElements room label items children → greatest (map depth children) ≤ room
  elements_depth (no_element room label) = omega arith
  elements_depth (and_passed room label items children item at are passed) = elements_depth are
  elements_depth (and_element room label items children one e are is) = greatest_push children e room (elements_depth are) (element_depth is)

-- a tree is not deep
pub tree_depth : (bytes : List ℕ) (root : Element) → IsTree bytes root → depth root ≤ 64
tree_depth bytes root is = element_depth is.is_document.is_root

-- The number of elements is that of the items that begin one.
total_of : (tag : Tag) (line : ℕ) (children : List Element) → elements_in (element_of tag line children) ≡ 1 + sum (map elements_in children)
total_of tag line children = fold-roll-Element ℕ elements_step _

total_push : (es : List Element) (e : Element) → sum (map elements_in (es ++ (e ∷ []))) ≡ sum (map elements_in es) + elements_in e
total_push es e = sum-map elements_in (es ++ (e ∷ [])) ∙ sum_by_push elements_in es e ∙ ap (λ n. n + elements_in e) (sym (sum-map elements_in es))

count_joined : (xs ys : List Placed) → element_count (xs ++ ys) ≡ element_count xs + element_count ys
count_joined xs ys = sum_by-append (λ placed. if begins_element placed.0 then 1 else 0) xs ys

passed_none : (label : Bool) (item : Item) → is_passed label item ≡ true → begins_element item ≡ false
passed_none label Comment h = refl
passed_none label Instruction h = refl
passed_none label (Text b) h = refl
passed_none label Doctype h = refl
passed_none label (Start tag) h = absurd (cc)
passed_none label (Empty tag) h = absurd (cc)
passed_none label (End name) h = refl

passed_count : (items : List Placed) (item : Item) (line : ℕ) → begins_element item ≡ false → element_count (items ++ ((item, line) ∷ [])) ≡ element_count items
passed_count items item line h = count-push (λ placed. begins_element placed.0) items (item, line) ∙ rw h (omega arith)

mutual
  -- an element has as many elements as its items begin
  pub element_total : {room : ℕ} {one : List Placed} {e : Element} → IsElement room one e → elements_in e ≡ element_count one
  element_total (tree.is_empty room tag line) = total_of tag line []
  element_total (is_around room tag line inside children name at within same) =
      let h = total_of tag line children in
      let k = elements_total within in
      let joined = count_joined ((Start tag, line) ∷ []) (inside ++ ((End name, at) ∷ [])) in
      let ended = passed_count inside (End name) at refl in
      h ∙ ap (λ n. 1 + n) (k ∙ sym ended) ∙ sym joined

  -- and so have elements
  pub elements_total : {room : ℕ} {label : Bool} {items : List Placed} {children : List Element} → AreElements room label items children → sum (map elements_in children) ≡ element_count items
  elements_total (no_element room label) = refl
  elements_total (and_passed room label items children item at are passed) = elements_total are ∙ sym (passed_count items item at (passed_none label item passed))
  elements_total (and_element room label items children one e are is) =
      total_push children e ∙ ap (λ n. n + elements_in e) (elements_total are) ∙ ap (λ n. element_count items + n) (element_total is) ∙ sym (count_joined items one)

none_begin : (test : Placed → Bool) → ((placed : Placed) → test placed ≡ true → begins_element placed.0 ≡ false) → (items : List Placed) → AllPass test items → element_count items ≡ 0
none_begin test none [] are = refl
none_begin test none (placed ∷ items) are = count_joined (placed ∷ []) items ∙ rw (none placed are.0, none_begin test none items are.1) refl

before_none : (placed : Placed) → is_before_root placed ≡ true → begins_element placed.0 ≡ false
before_none (Comment, line) h = refl
before_none (Instruction, line) h = refl
before_none (Text b, line) h = refl
before_none (Doctype, line) h = refl
before_none (Start tag, line) h = absurd (cc)
before_none (Empty tag, line) h = absurd (cc)
before_none (End name, line) h = refl

-- a document has as many elements as its items begin
pub document_total : (items : List Placed) (root : Element) → IsDocument items root → elements_in root ≡ element_count items
document_total items root is =
    let front = count_joined (is.before ++ is.one) is.behind in
    let joined = count_joined is.before is.one in
    let before = none_begin is_before_root before_none is.before is.are_before in
    let behind = none_begin is_behind_root (λ placed h. passed_none false placed.0 h) is.behind is.are_behind in
    let one = element_total is.is_root in
    let all = ap element_count is.joined in
    omega (arith, front, joined, before, behind, one, all)

-- A text in which no byte decides a fault begins not too many.
nil_join : (u : List ℕ) (b : ℕ) (rest : List ℕ) → [] ≡ u ++ (b ∷ rest) → ⊥
nil_join [] b rest h = cc
nil_join (x ∷ u) b rest h = cc

true_false : true ≡ false → ⊥
true_false h = cc

other_byte : (b n : ℕ) → (b == n) ≡ false → b ≢ n
other_byte b n e h = grind (arith, nat_tests, e, h)

plain_mark : {b : ℕ} {w : List ℕ} → IsMarkFront (b ∷ w) → (b == 239) ≡ true
plain_mark one_byte = refl
plain_mark two_bytes = refl
plain_mark whole_mark = refl

long_mark : {w : List ℕ} → IsMarkFront (239 ∷ 187 ∷ 191 ∷ w) → w ≡ []
long_mark whole_mark = refl

-- no byte behind a settled mark decides a fault
not_decided : (bytes h : List ℕ) (b : ℕ) (rest : List ℕ) (found : TextFault) → NoFault bytes → bytes ≡ h ++ (b ∷ rest) → (IsMarkFront (h ++ (b ∷ [])) → ⊥) → DecidesWithin (unmarked h) b found → ⊥
not_decided bytes h b rest found none joined apart decides = on (length h == 67108864) refl
  where
    on : (t : Bool) → (length h == 67108864) ≡ t → ⊥
    on true e = none h b rest _ joined (long_file h b (equal (length h) 67108864 e))
    on false e = none h b rest found joined (behind_mark h b found (other_byte (length h) 67108864 e) apart decides)

not_decided_plain : (c : ℕ) (bytes u : List ℕ) (b : ℕ) (rest : List ℕ) (found : TextFault) → NoFault (c ∷ bytes) → (c == 239) ≡ false → c ∷ bytes ≡ u ++ (b ∷ rest) → DecidesWithin u b found → ⊥
not_decided_plain c bytes [] b rest found none e joined decides =
    let same : c ≡ b = cc in
    not_decided (c ∷ bytes) [] b rest found none joined (λ front. true_false (sym (plain_mark front) ∙ rw (← same) e)) decides
not_decided_plain c bytes (d ∷ u) b rest found none e joined decides =
    let same : c ≡ d = cc in
    let plain : (d == 239) ≡ false = rw (← same) e in
    not_decided (c ∷ bytes) (d ∷ u) b rest found none joined (λ front. true_false (sym (plain_mark front) ∙ plain)) (rw plain decides)

push_nil : (u : List ℕ) (b : ℕ) → u ++ (b ∷ []) ≡ [] → ⊥
push_nil [] b h = cc
push_nil (x ∷ u) b h = cc

-- the same, of the bytes behind any mark
pub not_decided_within : (bytes : List ℕ) → NoFault bytes → (u : List ℕ) (b : ℕ) (rest : List ℕ) (found : TextFault) → unmarked bytes ≡ u ++ (b ∷ rest) → DecidesWithin u b found → ⊥
not_decided_within [] none u b rest found joined decides = nil_join u b rest joined
not_decided_within (c ∷ []) none u b rest found joined decides =
    choose (λ x. x ≡ u ++ (b ∷ rest) → ⊥) (c == 239) [] (c ∷ []) (λ _ h. nil_join u b rest h) (λ e h. not_decided_plain c [] u b rest found none e h decides) joined
not_decided_within (c ∷ d ∷ []) none u b rest found joined decides =
    choose (λ x. x ≡ u ++ (b ∷ rest) → ⊥) (c == 239) _ _
    (λ e h. choose (λ x. x ≡ u ++ (b ∷ rest) → ⊥) (d == 187) [] (239 ∷ d ∷ []) (λ _ k. nil_join u b rest k)
    (λ f k. none (239 ∷ []) d [] _ (rw (equal c 239 e) refl) (broken_at_two d (other_byte d 187 f))) h)
    (λ e h. not_decided_plain c (d ∷ []) u b rest found none e h decides) joined
not_decided_within (c ∷ d ∷ f ∷ bytes) none u b rest found joined decides =
    choose (λ x. x ≡ u ++ (b ∷ rest) → ⊥) (c == 239) _ _
    (λ e h. choose (λ x. x ≡ u ++ (b ∷ rest) → ⊥) (d == 187) _ _
    (λ g k. choose (λ x. x ≡ u ++ (b ∷ rest) → ⊥) (f == 191) _ _
    (λ i l. not_decided (c ∷ d ∷ f ∷ bytes) (239 ∷ 187 ∷ 191 ∷ u) b rest found none (rw (equal c 239 e, equal d 187 g, equal f 191 i, l) refl) (λ front. push_nil u b (long_mark front)) decides)
    (λ i l. none (239 ∷ 187 ∷ []) f bytes _ (rw (equal c 239 e, equal d 187 g) refl) (broken_at_three f (other_byte f 191 i))) k)
    (λ g k. none (239 ∷ []) d (f ∷ bytes) _ (rw (equal c 239 e) refl) (broken_at_two d (other_byte d 187 g))) h)
    (λ e h. not_decided_plain c (d ∷ f ∷ bytes) u b rest found none e h decides) joined

-- the bytes of a tag begin with `<` and a byte of its name
record Tagged (bytes : List ℕ) : Type 0 where
  pub byte : ℕ
  pub more : List ℕ
  pub starts : is_name_start byte ≡ true
  pub joined : bytes ≡ 60 ∷ byte ∷ more

tagged_more : (head rest : List ℕ) → Tagged head → Tagged (head ++ rest)
tagged_more head rest t = record { byte = t.byte; more = t.more ++ rest; starts = t.starts; joined = ap (λ x. x ++ rest) t.joined }

head_tagged : {head : List ℕ} {tag : Tag} → IsHead head tag → Tagged head
head_tagged (head_name [] is) = absurd is
head_tagged (head_name (b ∷ bs) is) = record { byte = b; more = bs; starts = is.0; joined = refl }
head_tagged (head_more head tag quote name opening raw value is opens raws) = tagged_more head (opening ++ raw ++ (quote ∷ [])) (head_tagged is)

begun_tagged : {item : Item} {bytes : List ℕ} → IsItem item bytes → begins_element item ≡ true → Tagged bytes
begun_tagged (is_text b plain) h = absurd (cc)
begun_tagged (is_instruction body up) h = absurd (cc)
begun_tagged (is_comment body up) h = absurd (cc)
begun_tagged (is_doctype blank body is are) h = absurd (cc)
begun_tagged (is_start head tag blanks is are) h = tagged_more head (blanks ++ (62 ∷ [])) (head_tagged is)
begun_tagged (is_empty head tag blanks is are) h = tagged_more head (blanks ++ (47 ∷ 62 ∷ [])) (head_tagged is)
begun_tagged (is_end name blanks is are) h = absurd (cc)

some_one : (b : ℕ) → (b ∷ []) ≢ []
some_one b h = cc

-- an item that would begin one element too many decides a fault
too_many : (items : List Placed) (before : List ℕ) (item : Item) (bytes : List ℕ) (t : Tagged bytes) → AreItems items before → IsItem item bytes → element_count items ≡ 1000000 → DecidesWithin (before ++ (60 ∷ [])) t.byte (fault LongFile (line_after (before ++ (60 ∷ []))))
too_many items before item bytes t are is many =
    many_elements (before ++ (60 ∷ [])) t.byte items (line_after before)
    (record { before = before; are = are; is_part = record { item = item; byte = t.byte; more = t.more; some = some_one 60; is_item = subst (IsItem item) t.joined is }; joined = refl; at = refl }) t.starts many

count_step : (items : List Placed) (before bytes rest body : List ℕ) (item : Item) → AreItems items before → IsItem item bytes → ((u : List ℕ) (b : ℕ) (more : List ℕ) (found : TextFault) → body ≡ u ++ (b ∷ more) → DecidesWithin u b found → ⊥) → body ≡ (before ++ bytes) ++ rest → element_count items ≤ 1000000 → (t : Bool) → begins_element item ≡ t → element_count (items ++ ((item, line_after before) ∷ [])) ≤ 1000000
count_step items before bytes rest body item are is none joined few false e = rw (passed_count items item (line_after before) e) few
count_step items before bytes rest body item are is none joined few true e =
    let t = begun_tagged is e in
    let pushed : element_count (items ++ ((item, line_after before) ∷ [])) ≡ element_count items + 1 = count-push (λ placed. begins_element placed.0) items (item, line_after before) ∙ rw e refl in
    let spelled : body ≡ (before ++ (60 ∷ [])) ++ (t.byte ∷ (t.more ++ rest)) = joined ∙ ap (λ x. (before ++ x) ++ rest) t.joined ∙ (append_assoc before (60 ∷ t.byte ∷ t.more) rest ∙ sym (append_assoc before (60 ∷ []) (t.byte ∷ (t.more ++ rest)))) in
    let other : element_count items ≢ 1000000 = λ many. none (before ++ (60 ∷ [])) t.byte (t.more ++ rest) _ spelled (too_many items before item bytes t are is many) in
    omega (arith, few, pushed, other)

-- the items of bytes that decide no fault begin not too many elements
pub few_elements : {items : List Placed} {front : List ℕ} (body rest : List ℕ) → AreItems items front → ((u : List ℕ) (b : ℕ) (more : List ℕ) (found : TextFault) → body ≡ u ++ (b ∷ more) → DecidesWithin u b found → ⊥) → body ≡ front ++ rest → element_count items ≤ 1000000
few_elements body rest no_item none joined = omega arith
few_elements body rest (and_item items before item bytes are is) none joined =
    count_step items before bytes rest body item are is none joined
    (few_elements body (bytes ++ rest) are none (joined ∙ append_assoc before bytes rest)) (begins_element item) refl

-- a tree has not many elements
pub tree_elements : (bytes : List ℕ) (root : Element) → IsTree bytes root → NoFault bytes → elements_in root ≤ 1000000
tree_elements bytes root is none =
    let few = few_elements (unmarked bytes) [] is.are (not_decided_within bytes none) (sym (append-nil (unmarked bytes))) in
    let total = document_total is.items root is.is_document in
    omega (arith, few, total)
