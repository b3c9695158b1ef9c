-- What is read past items for their keys alone is what reading them gives.
use Rattle.std.proofs.Common.{◌≡◌, ℕ, zero, suc, ◌-◌, ◌+◌, ◌<◌, ◌≤◌, Bool, true, false, if◌then◌else◌, ltb, leb, eqb, ◌&&◌, List, [], ◌∷◌, map, length, Option, Some, None, refl, sym, ap, subst, ◌∙◌, arith}
use Rattle.std.specs.List.{list_all, AllByRecursion}
use Rattle.std.proofs.lemmas.List.{length-map}
use Rattle.hot_units.specs.Values.{BodyValue, CellValue}
use Rattle.hot_units.specs.Keys.{IsCell, contains}
use Rattle.hot_model.specs.declared.answer.Answer.{Answer}
use Rattle.hot_model.specs.declared.answer.Answer.TheVariants.{Children, Bodies}
use Rattle.hot_model.specs.declared.answer.Answered.{Answered}
use Rattle.cell_mail.specs.declared.content.Kind.{Kind}
use Rattle.cell_mail.specs.declared.content.Kind.TheVariants as kinds
use Rattle.cell_mail.specs.declared.content.Content.{Content}
use Rattle.cell_mail.specs.declared.content.Content.TheVariants as content
use Rattle.cell_mail.specs.declared.content.LetterError.{LetterError}
use Rattle.cell_mail.specs.declared.content.LetterError.TheVariants as errors
use Rattle.cell_mail.specs.Sizes.{version, mark_size, count_size, key_size, max_children}
use Rattle.cell_mail.specs.Spelling.{keys_of}
use Rattle.cell_mail.specs.Grammar.{rise_above, ascend, follows, bodies_from, has_parent, fits_leaf}
use Rattle.cell_mail.specs.Letters.{kind_of}
use Rattle.cell_mail.specs.Reading.{◌>>=◌, Fails, Reader, checked, number_at, is_below_root, good_answer, good_content, ItemsFit, key_at, record_at, body_at, many, counted_at, entries_at, item_at, items_at, unchecked_at, content_at, reading}
use Rattle.cell_mail.specs.Skimming.{child_stands, body_stands, row_past, answer_past, keyed, record_key_at, item_key_at, keys_at, good_keys, skimmed_at, skimming}
use Rattle.cell_mail.proofs.Readers.{bind_some, some, some_is}
use Rattle.cell_mail.proofs.Numbers.{IsBytes}
use Rattle.cell_mail.proofs.Formats.{reads-unchecked}
use Rattle.cell_mail.proofs.Apart.{records-are-cells}

-- ---- a row as a loop

-- behind an element that may stand there the rest decides
pub row-goes_on : {X : Type 0} (stands : Option X → X → Bool) (r : Reader X) (count i : ℕ) (last : Option X) (bytes : List ℕ) (x : X) (after : List ℕ) (total : Option (List ℕ)) → i < count → r bytes ≡ Some (x, after) → stands last x ≡ true
    → row_past stands r (count - i) last bytes ≡ total → row_past stands r (count - (i + 1)) (Some x) after ≡ total
unfolding row_past
row-goes_on stands r count i last bytes x after total lt h t so_far =
    let k : count - i ≡ suc (count - (i + 1)) = omega arith in
    let one : row_past stands r (count - i) last bytes ≡ row_past stands r (count - (i + 1)) (Some x) after = rw (k, h, t) refl in
    sym one ∙ so_far

-- one that may not stand there ends the row
pub row-stops : {X : Type 0} (stands : Option X → X → Bool) (r : Reader X) (count i : ℕ) (last : Option X) (bytes : List ℕ) (x : X) (after : List ℕ) (total : Option (List ℕ)) → i < count → r bytes ≡ Some (x, after) → stands last x ≡ false
    → row_past stands r (count - i) last bytes ≡ total → total ≡ None
unfolding row_past
row-stops stands r count i last bytes x after total lt h t so_far =
    let k : count - i ≡ suc (count - (i + 1)) = omega arith in
    let one : row_past stands r (count - i) last bytes ≡ None = rw (k, h, t) refl in
    sym so_far ∙ one

-- one that is not read ends the row
pub row-ends : {X : Type 0} (stands : Option X → X → Bool) (r : Reader X) (e : LetterError) (count i : ℕ) (last : Option X) (bytes : List ℕ) (total : Option (List ℕ)) → i < count → Fails e (r bytes)
    → row_past stands r (count - i) last bytes ≡ total → Fails e total
unfolding row_past
row-ends stands r errors.Memory count i last bytes total lt h so_far = tt
row-ends stands r errors.NotALetter count i last bytes total lt h so_far =
    let k : count - i ≡ suc (count - (i + 1)) = omega arith in
    let one : row_past stands r (count - i) last bytes ≡ None = rw (k, h) refl in
    sym so_far ∙ one

-- with all elements passed the rest is the answer
pub row-is_done : {X : Type 0} (stands : Option X → X → Bool) (r : Reader X) (count i : ℕ) (last : Option X) (bytes : List ℕ) (total : Option (List ℕ)) → count ≤ i → row_past stands r (count - i) last bytes ≡ total → total ≡ Some bytes
unfolding row_past
row-is_done stands r count i last bytes total le so_far =
    let k : count - i ≡ 0 = omega arith in
    let one : row_past stands r (count - i) last bytes ≡ Some bytes = rw k refl in
    sym so_far ∙ one

-- ---- readers put together

bind-bind : {A B C : Type 0} (r : Option A) (f : A → Option B) (g : B → Option C) → ((r >>= f) >>= g) ≡ (r >>= λ x. f x >>= g)
bind-bind (Some x) f g = refl
bind-bind None f g = refl

bind-same : {A B : Type 0} (r : Option A) (f g : A → Option B) → ((x : A) → r ≡ Some x → f x ≡ g x) → (r >>= f) ≡ (r >>= g)
bind-same (Some x) f g h = h x refl
bind-same None f g h = refl

-- ---- rows

-- each item may stand behind the one before it
in_row : {X : Type 0} → (Option X → X → Bool) → Option X → List X → Bool
in_row stands last [] = true
in_row stands last (x ∷ xs) = stands last x && in_row stands (Some x) xs

-- the bytes behind a list that passes a test
abbrev passing : {X : Type 0} → (List X → Bool) → Option (List X × List ℕ) → Option (List ℕ)
passing test read = read >>= λ x. if test x.0 then Some x.1 else None

passing-first : {X : Type 0} (x : X) (first : Bool) (test : List X → Bool) (read : Option (List X × List ℕ)) → (if first then passing test read else None) ≡ passing (λ xs. first && test xs) read
passing-first x true test read = refl
passing-first x false test (Some y) = refl
passing-first x false test None = refl

passing-more : {X : Type 0} (x : X) (test : List X → Bool) (read : Option (List X × List ℕ)) → passing (λ xs. test (x ∷ xs)) read ≡ passing test (read >>= λ xs. Some (x ∷ xs.0, xs.1))
passing-more x test (Some y) = refl
passing-more x test None = refl

row-is : {X : Type 0} (stands : Option X → X → Bool) (r : Reader X) (n : ℕ) (last : Option X) (bytes : List ℕ) → row_past stands r n last bytes ≡ passing (in_row stands last) (many r n bytes)
unfolding row_past many in_row
row-is stands r zero last bytes = refl
row-is {X} stands r (suc n) last bytes =
    bind-same (r bytes) (λ x. if stands last x.0 then row_past stands r n (Some x.0) x.1 else None) (λ x. passing (in_row stands last) (many r n x.1 >>= λ others. Some (x.0 ∷ others.0, others.1)))
    (λ x e.
    ap (λ (o : Option (List ℕ)). if stands last x.0 then o else None) (row-is stands r n (Some x.0) x.1)
    ∙ (passing-first x.0 (stands last x.0) (in_row stands (Some x.0)) (many r n x.1) ∙ passing-more x.0 (in_row stands last) (many r n x.1)))
    ∙ sym (bind-bind (r bytes) (λ x. many r n x.1 >>= λ others. Some (x.0 ∷ others.0, others.1)) (λ x. if in_row stands last x.0 then Some x.1 else None))

and-assoc : (a b c : Bool) → ((a && b) && c) ≡ (a && (b && c))
and-assoc true b c = refl
and-assoc false b c = refl

and-swap : (a b c d : Bool) → ((a && b) && (c && d)) ≡ ((a && c) && (b && d))
and-swap true true c d = refl
and-swap true false true d = refl
and-swap true false false d = refl
and-swap false b c d = refl

abbrev key_or : Option CellValue → ℕ
key_or None = 0
key_or (Some c) = c.key

children-row : (k : ℕ) (last : Option CellValue) (cs : List CellValue) → in_row (child_stands k) last cs ≡ (rise_above (key_or last) (map (λ c. c.key) cs) && list_all (has_parent k) cs)
unfolding rise_above in_row
children-row k last [] = refl
children-row k None (c ∷ cs) = rw (children-row k (Some c) cs) (and-swap (ltb 0 c.key) (has_parent k c) (rise_above c.key (map (λ d. d.key) cs)) (list_all (has_parent k) cs))
children-row k (Some a) (c ∷ cs) = rw (children-row k (Some c) cs) (and-swap (ltb a.key c.key) (has_parent k c) (rise_above c.key (map (λ d. d.key) cs)) (list_all (has_parent k) cs))

bodies-row : (k : ℕ) (last : Option BodyValue) (bs : List BodyValue) → in_row (body_stands k) last bs ≡ (bodies_from last bs && list_all (contains k) bs)
unfolding bodies_from in_row
bodies-row k last [] = refl
bodies-row k last (b ∷ bs) = rw (bodies-row k (Some b) bs) (and-swap (follows last b) (contains k b) (bodies_from (Some b) bs) (list_all (contains k) bs))

many-length : {X : Type 0} (r : Reader X) (n : ℕ) (bytes : List ℕ) (xs : List X) (rest : List ℕ) → many r n bytes ≡ Some (xs, rest) → length xs ≡ n
unfolding many
many-length {X} r zero bytes xs rest e = sym (ap (λ (p : List X × List ℕ). length p.0) (some_is ([], bytes) (xs, rest) e))
many-length {X} r (suc n) bytes xs rest e =
    let b = bind_some (r bytes) (λ first. many r n first.1 >>= λ others. Some (first.0 ∷ others.0, others.1)) (xs, rest) e in
    let c = bind_some (many r n b.0.1) (λ others. Some (b.0.0 ∷ others.0, others.1)) (xs, rest) b.2 in
    sym (ap (λ (p : List X × List ℕ). length p.0) (some_is (b.0.0 ∷ c.0.0, c.0.1) (xs, rest) c.2)) ∙ ap suc (many-length r n b.0.1 c.0.0 c.0.1 c.1)

tested-first : {Y : Type 0} (b row : Bool) (y : Y) → (if b then (if row then some y else None) else None) ≡ (if b && row then some y else None)
tested-first true row y = refl
tested-first false row y = refl

none-both : {Y : Type 0} (b : Bool) → ◌≡◌ {A = Option Y} (if b then None else None) None
none-both true = refl
none-both false = refl

-- a test of the number of items before they are read
tested-row : {X : Type 0} (b : Bool) (row good : List X → Bool) (read : Option (List X × List ℕ)) → ((xs : List X) (rest : List ℕ) → read ≡ Some (xs, rest) → good xs ≡ (b && row xs))
    → (if b then passing row read else None) ≡ passing good read
tested-row b row good (Some y) h = rw (h y.0 y.1 refl) (tested-first b (row y.0) y.1)
tested-row b row good None h = none-both b

abbrev answering : ℕ → Option (Answer × List ℕ) → Option (List ℕ)
answering k read = read >>= λ a. if good_answer k a.0 then Some a.1 else None

children-good : (k n : ℕ) (cs : List CellValue) → length cs ≡ n → good_answer k (Children cs) ≡ ((leb 1 n && leb n max_children) && in_row (child_stands k) None cs)
children-good k n cs e = rw (← e, children-row k None cs) (sym (and-assoc (leb 1 (length cs)) (leb (length cs) max_children) (ascend (map (λ c. c.key) cs) && list_all (has_parent k) cs)))

bodies-good : (k n : ℕ) (bs : List BodyValue) → length bs ≡ n → good_answer k (Bodies bs) ≡ ((leb 1 n && fits_leaf k n) && in_row (body_stands k) None bs)
bodies-good k n bs e = rw (← e, bodies-row k None bs) (sym (and-assoc (leb 1 (length bs)) (fits_leaf k (length bs)) (bodies_from None bs && list_all (contains k) bs)))

row-tested : {X : Type 0} (r : Reader X) (stands : Option X → X → Bool) (b : ℕ → Bool) (good : List X → Bool) (made : List X → Answer) (k : ℕ) (bytes : List ℕ)
    → ((n : ℕ) (xs : List X) → length xs ≡ n → good_answer k (made xs) ≡ (b n && in_row stands None xs))
    → (number_at count_size bytes >>= λ n. if b n.0 then row_past stands r n.0 None n.1 else None) ≡ answering k (counted_at r bytes >>= λ xs. Some (made xs.0, xs.1))
unfolding counted_at
row-tested {X} r stands b good made k bytes h =
    bind-same (number_at count_size bytes) (λ n. if b n.0 then row_past stands r n.0 None n.1 else None) (λ n. passing (λ xs. good_answer k (made xs)) (many r n.0 n.1))
    (λ n e. ap (λ (o : Option (List ℕ)). if b n.0 then o else None) (row-is stands r n.0 None n.1)
    ∙ tested-row (b n.0) (in_row stands None) (λ xs. good_answer k (made xs)) (many r n.0 n.1) (λ xs rest f. h n.0 xs (many-length r n.0 n.1 xs rest f)))
    ∙ (sym (bind-bind (number_at count_size bytes) (λ n. many r n.0 n.1) (λ x. if good_answer k (made x.0) then Some x.1 else None))
    ∙ sym (bind-bind (number_at count_size bytes >>= λ n. many r n.0 n.1) (λ xs. Some (made xs.0, xs.1)) (λ a. if good_answer k a.0 then Some a.1 else None)))

answer-is : (k tag : ℕ) (bytes : List ℕ) → answer_past k tag bytes ≡ answering k (entries_at tag bytes)
unfolding answer_past entries_at
answer-is k zero bytes = refl
answer-is k (suc zero) bytes = row-tested record_at (child_stands k) (λ n. leb 1 n && leb n max_children) (λ cs. true) Children k bytes (children-good k)
answer-is k (suc (suc zero)) bytes = row-tested body_at (body_stands k) (λ n. leb 1 n && fits_leaf k n) (λ bs. true) Bodies k bytes (bodies-good k)
answer-is k (suc (suc (suc tag))) bytes = refl

-- ---- keys of items

abbrev item_of : ℕ → Answer → Answered
item_of key answer = record { key = key; answer = answer }

abbrev at_key : ℕ → List ℕ → Option (ℕ × List ℕ)
at_key key rest = Some (key, rest)

abbrev key_after : Answered × List ℕ → Option (ℕ × List ℕ)
key_after x = Some (x.0.key, x.1)

item-tested : (below good : Bool) (key : ℕ) (answer : Answer) (rest : List ℕ) → (if below then ((if good then some rest else None) >>= at_key key) else None)
    ≡ (checked (below && good) (item_of key answer) rest >>= key_after)
item-tested true true key answer rest = refl
item-tested true false key answer rest = refl
item-tested false good key answer rest = refl

item-inner : (below : Bool) (key : ℕ) (read : Option (Answer × List ℕ)) → (if below then (answering key read >>= at_key key) else None)
    ≡ ((read >>= λ a. checked (below && good_answer key a.0) (item_of key a.0) a.1) >>= key_after)
item-inner below key (Some a) = item-tested below (good_answer key a.0) key a.0 a.1
item-inner below key None = none-both below

abbrev under : Bool → ℕ → Option (List ℕ) → Option (ℕ × List ℕ)
under below key past = if below then (past >>= at_key key) else None

item-key-is : (bytes : List ℕ) → item_key_at bytes ≡ keyed (λ (a : Answered). a.key) item_at bytes
unfolding item_key_at item_at
item-key-is bytes =
    bind-same (number_at key_size bytes) (λ key. number_at mark_size key.1 >>= λ tag. under (is_below_root key.0) key.0 (answer_past key.0 tag.0 tag.1))
    (λ key. (number_at mark_size key.1 >>= λ tag. entries_at tag.0 tag.1 >>= λ a. checked (is_below_root key.0 && good_answer key.0 a.0) (item_of key.0 a.0) a.1) >>= key_after)
    (λ key e.
    bind-same (number_at mark_size key.1) (λ tag. under (is_below_root key.0) key.0 (answer_past key.0 tag.0 tag.1))
    (λ tag. (entries_at tag.0 tag.1 >>= λ a. checked (is_below_root key.0 && good_answer key.0 a.0) (item_of key.0 a.0) a.1) >>= key_after)
    (λ tag f. ap (under (is_below_root key.0) key.0) (answer-is key.0 tag.0 tag.1) ∙ item-inner (is_below_root key.0) key.0 (entries_at tag.0 tag.1))
    ∙ sym (bind-bind (number_at mark_size key.1) (λ tag. entries_at tag.0 tag.1 >>= λ a. checked (is_below_root key.0 && good_answer key.0 a.0) (item_of key.0 a.0) a.1) key_after))
    ∙ sym (bind-bind (number_at key_size bytes) (λ key. number_at mark_size key.1 >>= λ tag. entries_at tag.0 tag.1 >>= λ a. checked (is_below_root key.0 && good_answer key.0 a.0) (item_of key.0 a.0) a.1) key_after)

abbrev mapped : {X : Type 0} → (X → ℕ) → Option (List X × List ℕ) → Option (List ℕ × List ℕ)
mapped f read = read >>= λ xs. Some (map f xs.0, xs.1)

mapped-more : {X : Type 0} (f : X → ℕ) (x : X) (read : Option (List X × List ℕ)) → (mapped f read >>= λ o. some (f x ∷ o.0, o.1)) ≡ mapped f (read >>= λ o. some (x ∷ o.0, o.1))
mapped-more f x (Some y) = refl
mapped-more f x None = refl

many-keyed : {X : Type 0} (f : X → ℕ) (r : Reader X) (q : Reader ℕ) → ((b : List ℕ) → q b ≡ keyed f r b) → (n : ℕ) (bytes : List ℕ) → many q n bytes ≡ mapped f (many r n bytes)
unfolding many
many-keyed f r q h zero bytes = refl
many-keyed {X} f r q h (suc n) bytes =
    ap (λ (o : Option (ℕ × List ℕ)). o >>= λ k. many q n k.1 >>= λ others. some (k.0 ∷ others.0, others.1)) (h bytes)
    ∙ (bind-bind (r bytes) (λ x. some (f x.0, x.1)) (λ k. many q n k.1 >>= λ others. some (k.0 ∷ others.0, others.1))
    ∙ (bind-same (r bytes) (λ x. many q n x.1 >>= λ others. some (f x.0 ∷ others.0, others.1)) (λ x. mapped f (many r n x.1 >>= λ others. some (x.0 ∷ others.0, others.1)))
    (λ x e. ap (λ (o : Option (List ℕ × List ℕ)). o >>= λ others. some (f x.0 ∷ others.0, others.1)) (many-keyed f r q h n x.1) ∙ mapped-more f x.0 (many r n x.1))
    ∙ sym (bind-bind (r bytes) (λ x. many r n x.1 >>= λ others. some (x.0 ∷ others.0, others.1)) (λ xs. some (map f xs.0, xs.1)))))

counted-keyed : {X : Type 0} (f : X → ℕ) (r : Reader X) (q : Reader ℕ) → ((b : List ℕ) → q b ≡ keyed f r b) → (bytes : List ℕ) → counted_at q bytes ≡ mapped f (counted_at r bytes)
unfolding counted_at
counted-keyed f r q h bytes =
    bind-same (number_at count_size bytes) (λ n. many q n.0 n.1) (λ n. mapped f (many r n.0 n.1)) (λ n e. many-keyed f r q h n.0 n.1)
    ∙ sym (bind-bind (number_at count_size bytes) (λ n. many r n.0 n.1) (λ xs. some (map f xs.0, xs.1)))

-- ---- the kind and the keys

abbrev heading : Option (Content × List ℕ) → Option (Kind × List ℕ × List ℕ)
heading read = read >>= λ c. Some (kind_of c.0, keys_of c.0, c.1)

abbrev with_kind : Kind → Option (List ℕ × List ℕ) → Option (Kind × List ℕ × List ℕ)
with_kind k read = read >>= λ ks. Some (k, ks.0, ks.1)

branches-heading : (read : Option (List CellValue × List ℕ)) → with_kind kinds.Branches (mapped (λ c. c.key) read) ≡ heading (read >>= λ cs. some (content.Branches cs.0, cs.1))
branches-heading (Some x) = refl
branches-heading None = refl

asks-heading : (read : Option (List ℕ × List ℕ)) → with_kind kinds.Asks read ≡ heading (read >>= λ ks. some (content.Asks ks.0, ks.1))
asks-heading (Some x) = refl
asks-heading None = refl

answers-heading : (read : Option (List Answered × List ℕ)) → with_kind kinds.Answers (mapped (λ a. a.key) read) ≡ heading (read >>= λ xs. some (content.Answers xs.0, xs.1))
answers-heading (Some x) = refl
answers-heading None = refl

keys-are : (kind : ℕ) (bytes : List ℕ) → keys_at kind bytes ≡ heading (items_at kind bytes)
unfolding keys_at items_at
keys-are zero bytes = refl
keys-are (suc zero) bytes = ap (with_kind kinds.Branches) (counted-keyed (λ c. c.key) record_at record_key_at (λ b. refl) bytes) ∙ branches-heading (counted_at record_at bytes)
keys-are (suc (suc zero)) bytes = asks-heading (counted_at key_at bytes)
keys-are (suc (suc (suc zero))) bytes = ap (with_kind kinds.Answers) (counted-keyed (λ a. a.key) item_at item_key_at item-key-is bytes) ∙ answers-heading (counted_at item_at bytes)
keys-are (suc (suc (suc (suc kind)))) bytes = refl

heading-tested : (b : Bool) (read : Option (Content × List ℕ)) → (heading read >>= λ x. if b then some x else None) ≡ heading (read >>= λ c. checked b c.0 c.1)
heading-tested true (Some c) = refl
heading-tested false (Some c) = refl
heading-tested b None = refl

-- the head of a letter is that of the letter read without its rules
pub skimmed-is : (bytes : List ℕ) → skimmed_at bytes ≡ heading (unchecked_at bytes)
unfolding skimmed_at unchecked_at
skimmed-is bytes =
    bind-same (number_at mark_size bytes) (λ v. number_at mark_size v.1 >>= λ kind. keys_at kind.0 kind.1 >>= λ x. if eqb v.0 version then some x else None)
    (λ v. heading (number_at mark_size v.1 >>= λ kind. items_at kind.0 kind.1 >>= λ c. checked (eqb v.0 version) c.0 c.1))
    (λ v e.
    bind-same (number_at mark_size v.1) (λ kind. keys_at kind.0 kind.1 >>= λ x. if eqb v.0 version then some x else None)
    (λ kind. heading (items_at kind.0 kind.1 >>= λ c. checked (eqb v.0 version) c.0 c.1))
    (λ kind f. ap (λ (o : Option (Kind × List ℕ × List ℕ)). o >>= λ x. if eqb v.0 version then some x else None) (keys-are kind.0 kind.1) ∙ heading-tested (eqb v.0 version) (items_at kind.0 kind.1))
    ∙ sym (bind-bind (number_at mark_size v.1) (λ kind. items_at kind.0 kind.1 >>= λ c. checked (eqb v.0 version) c.0 c.1) (λ c. some (kind_of c.0, keys_of c.0, c.1))))
    ∙ sym (bind-bind (number_at mark_size bytes) (λ v. number_at mark_size v.1 >>= λ kind. items_at kind.0 kind.1 >>= λ c. checked (eqb v.0 version) c.0 c.1) (λ c. some (kind_of c.0, keys_of c.0, c.1)))

good-same : (c : Content) → good_keys (kind_of c) (keys_of c) ≡ good_content c
good-same (content.Branches cs) = rw length-map refl
good-same (content.Asks ks) = refl
good-same (content.Answers xs) = rw length-map refl

abbrev short : Content → Kind × List ℕ
short c = (kind_of c, keys_of c)

ended-good : (ended : Bool) (c : Content) → (if ended && true then some (short c) else None) ≡ ((if ended then some c else None) >>= λ d. some (short d))
ended-good true c = refl
ended-good false c = refl

ended-not : (ended : Bool) (c : Content) → (if ended && false then some (short c) else None) ≡ None
ended-not true c = refl
ended-not false c = refl

both-tested : (good : Bool) (c : Content) (rest : List ℕ) → (if eqb (length rest) 0 && good then some (short c) else None)
    ≡ ((checked good c rest >>= λ x. if eqb (length x.1) 0 then some x.0 else None) >>= λ d. some (short d))
both-tested true c rest = ended-good (eqb (length rest) 0) c
both-tested false c rest = ended-not (eqb (length rest) 0) c

whole-tested : (read : Option (Content × List ℕ)) → (heading read >>= λ x. if eqb (length x.2) 0 && good_keys x.0 x.1 then some (x.0, x.1) else None)
    ≡ (((read >>= λ c. checked (good_content c.0) c.0 c.1) >>= λ c. if eqb (length c.1) 0 then some c.0 else None) >>= λ c. some (short c))
whole-tested (Some c) = rw (good-same c.0) (both-tested (good_content c.0) c.0 c.1)
whole-tested None = refl

-- a letter is skimmed as it is read, in short
pub skimming-is : (bytes : List ℕ) → skimming bytes ≡ (reading bytes >>= λ c. some (short c))
unfolding skimming reading content_at
skimming-is bytes =
    ap (λ (o : Option (Kind × List ℕ × List ℕ)). o >>= λ x. if eqb (length x.2) 0 && good_keys x.0 x.1 then some (x.0, x.1) else None) (skimmed-is bytes)
    ∙ whole-tested (unchecked_at bytes)

-- what was skimmed is the kind and the keys of what is read
pub skimmed-found : (bytes : List ℕ) (kind : Kind) (keys : List ℕ) → skimming bytes ≡ Some (kind, keys) → (c : Content) × (reading bytes ≡ Some c) × (kind ≡ kind_of c) × (keys ≡ keys_of c)
skimmed-found bytes kind keys e =
    let b = bind_some (reading bytes) (λ c. some (short c)) (kind, keys) (sym (skimming-is bytes) ∙ e) in
    let q = some_is (short b.0) (kind, keys) b.2 in
    (b.0, b.1, sym (ap (λ (p : Kind × List ℕ). p.0) q), sym (ap (λ (p : Kind × List ℕ). p.1) q))

none-of : {A B : Type 0} (r : Option A) (f : A → B) → (r >>= λ x. Some (f x)) ≡ None → r ≡ None
none-of (Some x) f e = absurd cc
none-of None f e = refl

-- what fails to be skimmed fails to be read
pub skimmed-fails : (e : LetterError) (bytes : List ℕ) → Fails e (skimming bytes) → Fails e (reading bytes)
skimmed-fails errors.Memory bytes f = tt
skimmed-fails errors.NotALetter bytes f = none-of (reading bytes) short (sym (skimming-is bytes) ∙ f)

branches-cells : (c : Content) → ItemsFit c → kind_of c ≡ kinds.Branches → AllByRecursion IsCell (keys_of c)
branches-cells (content.Branches cs) h e = records-are-cells cs h.1
branches-cells (content.Asks ks) h e = absurd cc
branches-cells (content.Answers xs) h e = absurd cc

-- the skimmed keys of branches are cells
pub skimmed-cells : (bytes : List ℕ) (kind : Kind) (keys rest : List ℕ) → IsBytes bytes → skimmed_at bytes ≡ Some (kind, keys, rest) → kind ≡ kinds.Branches → AllByRecursion IsCell keys
skimmed-cells bytes kind keys rest fits e k =
    let b = bind_some (unchecked_at bytes) (λ c. some (kind_of c.0, keys_of c.0, c.1)) (kind, keys, rest) (sym (skimmed-is bytes) ∙ e) in
    let q = some_is (kind_of b.0.0, keys_of b.0.0, b.0.1) (kind, keys, rest) b.2 in
    let one = reads-unchecked.takes bytes b.0.0 b.0.1 fits b.1 in
    subst (λ (ks : List ℕ). AllByRecursion IsCell ks) (ap (λ (p : Kind × List ℕ × List ℕ). p.1) q) (branches-cells b.0.0 one.1 (ap (λ (p : Kind × List ℕ × List ℕ). p.0) q ∙ k))
