-- The tokens of statements lead on to what is behind them.
use Rattle.std.proofs.Common.{◌≡◌, ℕ, ◌+◌, ◌*◌, ◌^◌, Bool, true, false, ◌⊎◌, inl, inr, List, [], ◌∷◌, ◌++◌, length, Option, Some, None, Result, Ok, Err, pos, refl, sym, ap, subst, ◌∙◌, append_assoc}
use Rattle.std.specs.Prelude.{option_and_then, if◌then◌else◌, is_some, codes, nat_lt, ◌==◌}
use Rattle.std.specs.Str.{bytes_eq}
use Rattle.std.proofs.lemmas.Bool.{cases_Bool, le-leb, lt-ltb}
use Rattle.hot_units.specs.Limits.{max_columns, max_row_bytes}
use Rattle.sdf_tokens.specs.declared.fault.FaultKind.{FaultKind}
use Rattle.sdf_tokens.specs.declared.fault.FaultKind.TheVariants as faults
use Rattle.sdf_header.specs.declared.kind.Kind.{Kind}
use Rattle.sdf_header.specs.declared.document.Value.{Value}
use Rattle.sdf_header.specs.declared.document.Value.TheVariants as values
use Rattle.sdf_header.specs.Limits.{max_array_length}
use Rattle.sdf_tokens.specs.Tokens.{Lexeme, Number, Text, End}
use Rattle.header_grammar.specs.TokenList.{Token}
use Rattle.sdf_header.specs.Types.{kind_named, unsigned_kind, bytes_of, is_char}
use Rattle.std.proofs.lemmas.Slice.Eq.{bytes_eq-Decides}
use Rattle.sdf_header.specs.Parts.{size_of, unsigned_type}
use Rattle.sdf_header.specs.Fields.{Row, has_field, length_of, no_fields}
use Rattle.sdf_header.specs.Statements.{Header, with_param, with_struct, value_of, number_for}
use Rattle.header_grammar.specs.Judgement.{IsOfSense}
use Rattle.header_grammar.specs.Grammar.{Spelling, spelling, word, sign, count, TypeName, types, type_in, IsType, Item, FieldLine, Statement, Parameter, Constant, Label, Struct, IsSize, IsLength, AreItems, AreLines, IsStatement, AreStatements, spell_type, spell_size, spell_length, spell_item, spell_earlier, spell_line, spell_lines, spell, spell_each, values_of, and_item, ItemFits, and_items, ItemsFit, and_line, and_lines, LinesFit, and_statement, Fits, and_statements, AllFit}
use Rattle.header_grammar.proofs.Machine.{Halt, halt, State, Done, Start, Wants, ParamName, ParamValue, Unsigned, Typed, Named, NumberFor, TextSize, TextValue, Fields, FieldUnsigned, Item as AtItem, ItemName, Length, ItemEnd, StructSize, wanted, has, or_halt, given, closed, on_type, on_item_end, step, and_then, goes}
use Rattle.sdf_header.proofs.Choices.{true_false, none_some}

-- a run that halts since what the statements say does not fit
abbrev pub HaltsBySense : Result State Halt → Type 0
HaltsBySense (Ok s) = ⊥
HaltsBySense (Err e) = IsOfSense e.kind

-- a run goes on at a later state, before tokens of this spelling
pub record GoesOn (s : State) (ts : List Token) (later : State) (rest : Spelling) : Type 0 where
  pub used : List Token
  pub tokens : List Token
  pub split : ts ≡ used ++ tokens
  pub are : spelling tokens ≡ rest
  pub same : goes s ts ≡ goes later tokens

joined : (s s1 s2 : State) (ts : List Token) (l1 l2 : Spelling) (g : GoesOn s ts s1 l1) → GoesOn s1 g.tokens s2 l2 → GoesOn s ts s2 l2
joined s s1 s2 ts l1 l2 g next = record {
  used = g.used ++ next.used;
  tokens = next.tokens;
  split = g.split ∙ ap (λ x. g.used ++ x) next.split ∙ sym (append_assoc g.used next.used next.tokens);
  are = next.are;
  same = g.same ∙ next.same;
}

-- it goes on, or it halts since this does not hold
abbrev pub Leads : State → List Token → State → Spelling → Type 0 → Type 0
Leads s ts later rest fits = GoesOn s ts later rest ⊎ (HaltsBySense (goes s ts) × (fits → ⊥))

-- one way to go on and then the next, with what makes each of them fit
pub lead_on : (s s1 s2 : State) (ts : List Token) (l1 l2 : Spelling) (p q r : Type 0) → (r → p) → (r → q) → Leads s ts s1 l1 p → ((ts : List Token) → spelling ts ≡ l1 → Leads s1 ts s2 l2 q) → Leads s ts s2 l2 r
lead_on s s1 s2 ts l1 l2 p q r to_p to_q (inr halts) h = inr (halts.0, λ x. halts.1 (to_p x))
lead_on s s1 s2 ts l1 l2 p q r to_p to_q (inl on) h =
    elim (h on.tokens on.are) [
      | inl next ↦ inl (joined s s1 s2 ts l1 l2 on next)
      | inr halts ↦ inr (subst HaltsBySense (sym on.same) halts.0, λ x. halts.1 (to_q x))
    ]

first_is : (ts : List Token) (x : Option Lexeme) (l : Spelling) → spelling ts ≡ x ∷ l → (t : Token) × (more : List Token) × (ts ≡ t ∷ more) × (t.lexeme ≡ x) × (spelling more ≡ l)
first_is [] x l e = absurd cc
first_is (t ∷ ts) x l e = (t, ts, refl, cc, cc)

token_at : Option Lexeme → ℕ → Token
token_at x place = record { lexeme = x; place = place }

-- one token
pub one : (s s1 : State) (ts : List Token) (x : Option Lexeme) (l : Spelling) → spelling ts ≡ x ∷ l → ((place : ℕ) → step s (record { lexeme = x; place = place }) ≡ Ok s1) → GoesOn s ts s1 l
unfolding goes
one s s1 ts x l e h =
    let f = first_is ts x l e in
    let is : step s f.0 ≡ Ok s1 = subst (λ y. step s (record { lexeme = y; place = f.0.place }) ≡ Ok s1) (sym f.3) (h f.0.place) in
    record { used = f.0 ∷ []; tokens = f.1; split = f.2; are = f.4; same = ap (goes s) f.2 ∙ ap (λ r. and_then r (λ s. goes s f.1)) is }

-- one token, whose place the next state keeps
one_at : (s : State) (s1 : ℕ → State) (ts : List Token) (x : Option Lexeme) (l : Spelling) → spelling ts ≡ x ∷ l → ((place : ℕ) → step s (record { lexeme = x; place = place }) ≡ Ok (s1 place)) → (place : ℕ) × GoesOn s ts (s1 place) l
unfolding goes
one_at s s1 ts x l e h =
    let f = first_is ts x l e in
    let is : step s f.0 ≡ Ok (s1 f.0.place) = subst (λ y. step s (record { lexeme = y; place = f.0.place }) ≡ Ok (s1 f.0.place)) (sym f.3) (h f.0.place) in
    (f.0.place, record { used = f.0 ∷ []; tokens = f.1; split = f.2; are = f.4; same = ap (goes s) f.2 ∙ ap (λ r. and_then r (λ s. goes s f.1)) is })

halts_at : (s : State) (ts : List Token) (x : Option Lexeme) (l : Spelling) (k : FaultKind) → IsOfSense k → spelling ts ≡ x ∷ l → ((place : ℕ) → (q : ℕ) × (step s (record { lexeme = x; place = place }) ≡ halt k q)) → HaltsBySense (goes s ts)
unfolding goes
halts_at s ts x l k sense e h =
    let f = first_is ts x l e in
    let w = h f.0.place in
    let is : step s f.0 ≡ halt k w.0 = subst (λ y. step s (record { lexeme = y; place = f.0.place }) ≡ halt k w.0) (sym f.3) w.1 in
    subst HaltsBySense (sym (ap (goes s) f.2 ∙ ap (λ r. and_then r (λ s. goes s f.1)) is)) sense

-- one token, unless a condition is broken
one_or : (b : Bool) (s s1 : State) (ts : List Token) (x : Option Lexeme) (l : Spelling) (k : FaultKind) → IsOfSense k → spelling ts ≡ x ∷ l
    → (b ≡ true → (place : ℕ) → (q : ℕ) × (step s (record { lexeme = x; place = place }) ≡ halt k q)) → (b ≡ false → (place : ℕ) → step s (record { lexeme = x; place = place }) ≡ Ok s1) → Leads s ts s1 l (b ≡ false)
one_or true s s1 ts x l k sense e h g = inr (halts_at s ts x l k sense e (h refl), λ is. true_false true refl is)
one_or false s s1 ts x l k sense e h g = inl (one s s1 ts x l e (g refl))

-- one way to go on and then the next
pub on : (s s1 s2 : State) (ts : List Token) (l1 l2 : Spelling) → GoesOn s ts s1 l1 → ((ts : List Token) → spelling ts ≡ l1 → GoesOn s1 ts s2 l2) → GoesOn s ts s2 l2
on s s1 s2 ts l1 l2 g h =
    joined s s1 s2 ts l1 l2 g (h g.tokens g.are)

-- the same where only the second may halt
pub on_lead : (s s1 s2 : State) (ts : List Token) (l1 l2 : Spelling) (p : Type 0) → GoesOn s ts s1 l1 → ((ts : List Token) → spelling ts ≡ l1 → Leads s1 ts s2 l2 p) → Leads s ts s2 l2 p
on_lead s s1 s2 ts l1 l2 p g h =
    elim (h g.tokens g.are) [
      | inl next ↦ inl (joined s s1 s2 ts l1 l2 g next)
      | inr halts ↦ inr (subst HaltsBySense (sym g.same) halts.0, halts.1)
    ]

lead_then : (s s1 s2 : State) (ts : List Token) (l1 l2 : Spelling) (p : Type 0) → Leads s ts s1 l1 p → ((ts : List Token) → spelling ts ≡ l1 → GoesOn s1 ts s2 l2) → Leads s ts s2 l2 p
lead_then s s1 s2 ts l1 l2 p (inr halts) h = inr halts
lead_then s s1 s2 ts l1 l2 p (inl g) h = inl (on s s1 s2 ts l1 l2 g h)

-- ---- types

no_keyword : (w other : List ℕ) (kind : Kind) → type_in types false other ≡ None → type_in types false w ≡ Some kind → bytes_eq w other ≡ false
no_keyword w other kind none yes_is =
    elim (cases_Bool (bytes_eq w other)) [
      | inl t ↦ (let same : w ≡ other = (bytes_eq-Decides w other).0 t in none_some kind (sym none ∙ sym (ap (type_in types false) same) ∙ yes_is))
      | inr f ↦ f
    ]

named_types : (w : List ℕ) → kind_named w ≡ type_in types false w
named_types w = refl

unsigned_types : (w : List ℕ) → unsigned_kind w ≡ type_in types true w
unsigned_types w = refl

-- a type stands where one is wanted
pub lead_type : (s : State) (typed : Kind → State) (u : ℕ → State) (t : TypeName) (ts : List Token) (rest : Spelling)
    → ((w : List ℕ) → bytes_eq w (codes "parameter") ≡ false → bytes_eq w (codes "struct") ≡ false → (place : ℕ) → step s (record { lexeme = word w; place = place }) ≡ on_type place typed (u place) w)
    → ((place : ℕ) (t : Token) → step (u place) t ≡ or_halt faults.UnknownType place (option_and_then unsigned_type t.lexeme) (λ kind. Ok (typed kind)))
    → IsType t → spelling ts ≡ spell_type t rest → GoesOn s ts (typed t.kind) rest
lead_type s typed u t ts rest h g is e = go t.unsigned is e
  where
    go : (b : Bool) → type_in types b t.word ≡ Some t.kind → spelling ts ≡ (if b then word (codes "unsigned") ∷ word t.word ∷ rest else word t.word ∷ rest) → GoesOn s ts (typed t.kind) rest
    go false is e = one s (typed t.kind) ts (word t.word) rest e (λ place. h t.word (no_keyword t.word (codes "parameter") t.kind refl is) (no_keyword t.word (codes "struct") t.kind refl is) place ∙ rw (no_keyword t.word (codes "unsigned") t.kind refl is) (ap (λ o. or_halt faults.UnknownType place o (λ kind. Ok (typed kind))) is))
    go true is e =
        let first = one_at s u ts (word (codes "unsigned")) (word t.word ∷ rest) e (λ place. h (codes "unsigned") refl refl place) in
        on s (u first.0) (typed t.kind) ts (word t.word ∷ rest) rest first.1 (λ ts e. one (u first.0) (typed t.kind) ts (word t.word) rest e (λ place. g first.0 (record { lexeme = word t.word; place = place }) ∙ ap (λ o. or_halt faults.UnknownType first.0 o (λ kind. Ok (typed kind))) is))

-- ---- sizes

lead_size : (s : State) (sized : Option ℕ → State) (size : Option ℕ) (ts : List Token) (rest : Spelling)
    → ((t : Token) → step s t ≡ (if has 93 t.lexeme then Ok (sized None) else wanted t.place (option_and_then size_of t.lexeme) (λ n. Ok (Wants 93 (sized (Some n))))))
    → IsSize size → spelling ts ≡ spell_size size (sign 93 ∷ rest) → GoesOn s ts (sized size) rest
lead_size s sized None ts rest h is e = one s (sized None) ts (sign 93) rest e (λ place. h (record { lexeme = sign 93; place = place }))
lead_size s sized (Some n) ts rest h is e =
    on s (Wants 93 (sized (Some n))) (sized (Some n)) ts (sign 93 ∷ rest) rest
    (one s (Wants 93 (sized (Some n))) ts (count n) (sign 93 ∷ rest) e (λ place. h (record { lexeme = count n; place = place }) ∙ rw (lt-ltb n (2 ^ 64) is) refl))
    (λ ts e. one (Wants 93 (sized (Some n))) (sized (Some n)) ts (sign 93) rest e (λ place. refl))

-- ---- statements that give a name

lead_given : (h : Header) (name : List ℕ) (value : Value) (ts : List Token) (rest : Spelling) → spelling ts ≡ sign 59 ∷ rest → GoesOn (given h name value) ts (Start (with_param h (record { name = name; value = value }))) rest
lead_given h name value ts rest e = one (given h name value) _ ts (sign 59) rest e (λ place. refl)

lead_parameter : (h : Header) (name : List ℕ) (token : Lexeme) (value : Value) (ts : List Token) (rest : Spelling) → value_of token ≡ Some value → spelling ts ≡ spell (Parameter name token value) rest → Leads (Start h) ts (Start (with_param h (record { name = name; value = value }))) rest (is_some (h.given name) ≡ false)
lead_parameter h name token value ts rest is e =
    on_lead (Start h) (ParamName h) _ ts (word name ∷ sign 61 ∷ Some token ∷ sign 59 ∷ rest) rest _ (one (Start h) (ParamName h) ts (word (codes "parameter")) _ e (λ place. refl)) (λ ts e.
    lead_then (ParamName h) (Wants 61 (ParamValue h name)) _ ts (sign 61 ∷ Some token ∷ sign 59 ∷ rest) rest _
    (one_or (is_some (h.given name)) (ParamName h) (Wants 61 (ParamValue h name)) ts (word name) _ faults.NameTwice tt e (λ b place. (place, rw b refl)) (λ b place. rw b refl)) (λ ts e.
    on (Wants 61 (ParamValue h name)) (ParamValue h name) _ ts (Some token ∷ sign 59 ∷ rest) rest (one (Wants 61 (ParamValue h name)) (ParamValue h name) ts (sign 61) _ e (λ place. refl)) (λ ts e.
    on (ParamValue h name) (given h name value) _ ts (sign 59 ∷ rest) rest (one (ParamValue h name) (given h name value) ts (Some token) _ e (λ place. rw is refl)) (λ ts e.
    lead_given h name value ts rest e))))

start_type : (h : Header) (w : List ℕ) → bytes_eq w (codes "parameter") ≡ false → bytes_eq w (codes "struct") ≡ false → (place : ℕ) → step (Start h) (record { lexeme = word w; place = place }) ≡ on_type place (Typed h) (Unsigned h place) w
start_type h w p s place = rw (p, s) refl

lead_named : (h : Header) (t : TypeName) (name : List ℕ) (ts : List Token) (rest : Spelling) → IsType t → spelling ts ≡ spell_type t (word name ∷ rest) → Leads (Start h) ts (Named h t.kind name) rest (is_some (h.given name) ≡ false)
lead_named h t name ts rest is e =
    on_lead (Start h) (Typed h t.kind) _ ts (word name ∷ rest) rest _ (lead_type (Start h) (Typed h) (Unsigned h) t ts (word name ∷ rest) (start_type h) (λ place t. refl) is e) (λ ts e.
    one_or (is_some (h.given name)) (Typed h t.kind) (Named h t.kind name) ts (word name) _ faults.NameTwice tt e (λ b place. (place, rw b refl)) (λ b place. rw b refl))

lead_constant : (h : Header) (t : TypeName) (name : List ℕ) (token : Lexeme) (value : Value) (ts : List Token) (rest : Spelling) → IsType t → number_for t.kind token ≡ Some value → spelling ts ≡ spell (Constant t name token value) rest → Leads (Start h) ts (Start (with_param h (record { name = name; value = value }))) rest (is_some (h.given name) ≡ false)
lead_constant h t name token value ts rest is number e =
    lead_then (Start h) (Named h t.kind name) _ ts (sign 61 ∷ Some token ∷ sign 59 ∷ rest) rest _ (lead_named h t name ts _ is e) (λ ts e.
    on (Named h t.kind name) (NumberFor h t.kind name) _ ts (Some token ∷ sign 59 ∷ rest) rest (one (Named h t.kind name) (NumberFor h t.kind name) ts (sign 61) _ e (λ place. refl)) (λ ts e.
    on (NumberFor h t.kind name) (given h name value) _ ts (sign 59 ∷ rest) rest (one (NumberFor h t.kind name) (given h name value) ts (Some token) _ e (λ place. rw number refl)) (λ ts e.
    lead_given h name value ts rest e)))

lead_label : (h : Header) (t : TypeName) (name : List ℕ) (size : Option ℕ) (ts : List Token) (rest : Spelling) → IsType t → is_char t.kind ≡ true → IsSize size → spelling ts ≡ spell (Label t name size) rest → Leads (Start h) ts (Start (with_param h (record { name = name; value = values.Other }))) rest (is_some (h.given name) ≡ false)
lead_label h t name size ts rest is char sized e =
    lead_then (Start h) (Named h t.kind name) _ ts (sign 91 ∷ spell_size size (sign 93 ∷ sign 61 ∷ Some Text ∷ sign 59 ∷ rest)) rest _ (lead_named h t name ts _ is e) (λ ts e.
    on (Named h t.kind name) (TextSize h name) _ ts (spell_size size (sign 93 ∷ sign 61 ∷ Some Text ∷ sign 59 ∷ rest)) rest (one (Named h t.kind name) (TextSize h name) ts (sign 91) _ e (λ place. rw char refl)) (λ ts e.
    on (TextSize h name) (Wants 61 (TextValue h name)) _ ts (sign 61 ∷ Some Text ∷ sign 59 ∷ rest) rest (lead_size (TextSize h name) (λ o. Wants 61 (TextValue h name)) size ts (sign 61 ∷ Some Text ∷ sign 59 ∷ rest) (λ t. refl) sized e) (λ ts e.
    on (Wants 61 (TextValue h name)) (TextValue h name) _ ts (Some Text ∷ sign 59 ∷ rest) rest (one (Wants 61 (TextValue h name)) (TextValue h name) ts (sign 61) _ e (λ place. refl)) (λ ts e.
    on (TextValue h name) (given h name values.Other) _ ts (sign 59 ∷ rest) rest (one (TextValue h name) (given h name values.Other) ts (Some Text) _ e (λ place. refl)) (λ ts e.
    lead_given h name values.Other ts rest e)))))

-- ---- items

-- behind the name of an item: it is too wide, or the token behind it goes on
lead_width : (h : Header) (row : Row) (kind : Kind) (name : List ℕ) (len : Option ℕ) (p sep : ℕ) (next : Row → State) (ts : List Token) (rest : Spelling)
    → (sep == 91) ≡ false → ((row : Row) (place : ℕ) → on_item_end h row kind (record { lexeme = sign sep; place = place }) ≡ Ok (next row)) → IsLength len → spelling ts ≡ spell_length len (sign sep ∷ rest)
    → Leads (ItemName h row kind name p) ts (next (and_item kind row (record { name = name; length = len }))) rest (nat_lt max_row_bytes (row.width + bytes_of kind * values_of len) ≡ false)
lead_width h row kind name None p sep next ts rest isnt ends is e =
    one_or (nat_lt max_row_bytes (row.width + bytes_of kind * 1)) (ItemName h row kind name p) _ ts (sign sep) rest faults.TooWide tt e
    (λ b place. (p, rw (isnt, b) refl))
    (λ b place. rw (isnt, b) (ends _ place))
lead_width h row kind name (Some n) p sep next ts rest isnt ends is e =
    let wide = nat_lt max_row_bytes (row.width + bytes_of kind * n) in
    let new = and_item kind row (record { name = name; length = Some n }) in
    let long : length_of (Number (Some (pos n))) ≡ Some n = rw (le-leb 1 n is.0, le-leb n max_array_length is.1) refl in
    on_lead (ItemName h row kind name p) (Length h row kind name p) (next new) ts (count n ∷ sign 93 ∷ sign sep ∷ rest) rest (wide ≡ false) (one (ItemName h row kind name p) (Length h row kind name p) ts (sign 91) _ e (λ place. refl)) (λ ts e.
    lead_then (Length h row kind name p) (Wants 93 (ItemEnd h new kind)) (next new) ts (sign 93 ∷ sign sep ∷ rest) rest (wide ≡ false)
    (one_or wide (Length h row kind name p) (Wants 93 (ItemEnd h new kind)) ts (count n) _ faults.TooWide tt e
    (λ b place. (p, rw (long, b) refl))
    (λ b place. rw (long, b) refl)) (λ ts e.
    on (Wants 93 (ItemEnd h new kind)) (ItemEnd h new kind) (next new) ts (sign sep ∷ rest) rest (one (Wants 93 (ItemEnd h new kind)) (ItemEnd h new kind) ts (sign 93) _ e (λ place. refl)) (λ ts e.
    one (ItemEnd h new kind) (next new) ts (sign sep) rest e (λ place. ends new place))))

weaker : (s later : State) (ts : List Token) (rest : Spelling) (p q : Type 0) → (q → p) → Leads s ts later rest p → Leads s ts later rest q
weaker s later ts rest p q f (inl g) = inl g
weaker s later ts rest p q f (inr halts) = inr (halts.0, λ x. halts.1 (f x))

lead_item : (h : Header) (row : Row) (kind : Kind) (i : Item) (sep : ℕ) (next : Row → State) (ts : List Token) (rest : Spelling)
    → (sep == 91) ≡ false → ((row : Row) (place : ℕ) → on_item_end h row kind (record { lexeme = sign sep; place = place }) ≡ Ok (next row)) → IsLength i.length → spelling ts ≡ spell_item i (sign sep ∷ rest)
    → Leads (AtItem h row kind) ts (next (and_item kind row i)) rest (ItemFits kind row i)
lead_item h row kind i sep next ts rest isnt ends is e =
    elim (cases_Bool (has_field i.name row.fields)) [
      | inl t ↦ inr (halts_at (AtItem h row kind) ts (word i.name) _ faults.NameTwice tt e (λ place. (place, rw t refl)), λ fits. true_false _ t fits.new)
      | inr f ↦
          elim (cases_Bool (length row.fields == max_columns)) [
            | inl t ↦ inr (halts_at (AtItem h row kind) ts (word i.name) _ faults.TooWide tt e (λ place. (place, rw (f, t) refl)), λ fits. true_false _ t fits.room)
            | inr g ↦
                (let first = one_at (AtItem h row kind) (ItemName h row kind i.name) ts (word i.name) (spell_length i.length (sign sep ∷ rest)) e (λ place. rw (f, g) refl) in
                weaker _ _ ts rest _ _ (λ (fits : ItemFits kind row i). fits.narrow)
                (on_lead (AtItem h row kind) (ItemName h row kind i.name first.0) (next (and_item kind row i)) ts (spell_length i.length (sign sep ∷ rest)) rest _ first.1 (λ ts e.
                lead_width h row kind i.name i.length first.0 sep next ts rest isnt ends is e)))
          ]
    ]

-- the items with commas behind them lead on, where they fit
pub lead_earlier : (h : Header) (row : Row) (kind : Kind) (items : List Item) (ts : List Token) (rest : Spelling) → AreItems items → spelling ts ≡ spell_earlier items rest → Leads (AtItem h row kind) ts (AtItem h (and_items kind row items) kind) rest (ItemsFit kind row items)
lead_earlier h row kind [] ts rest are e = inl (record { used = []; tokens = ts; split = refl; are = e; same = refl })
lead_earlier h row kind (i ∷ items) ts rest are e =
    lead_on (AtItem h row kind) (AtItem h (and_item kind row i) kind) _ ts (spell_earlier items rest) rest (ItemFits kind row i) (ItemsFit kind (and_item kind row i) items) _ (λ fits. fits.0) (λ fits. fits.1)
    (lead_item h row kind i 44 (λ row. AtItem h row kind) ts (spell_earlier items rest) refl (λ row place. refl) are.0 e)
    (λ ts e. lead_earlier h (and_item kind row i) kind items ts rest are.1 e)

lead_line : (h : Header) (row : Row) (l : FieldLine) (ts : List Token) (rest : Spelling) → IsType l.type × AreItems l.earlier × IsLength l.last.length → spelling ts ≡ spell_line l rest
    → Leads (Fields h row) ts (Fields h (and_line row l)) rest (ItemsFit l.type.kind row l.earlier × ItemFits l.type.kind (and_items l.type.kind row l.earlier) l.last)
lead_line h row l ts rest are e =
    let kind = l.type.kind in
    let wider = and_items kind row l.earlier in
    on_lead (Fields h row) (AtItem h row kind) (Fields h (and_line row l)) ts (spell_earlier l.earlier (spell_item l.last (sign 59 ∷ rest))) rest _
    (lead_type (Fields h row) (AtItem h row) (FieldUnsigned h row) l.type ts _ (λ w p s place. refl) (λ place t. refl) are.0 e) (λ ts e.
    lead_on (AtItem h row kind) (AtItem h wider kind) (Fields h (and_line row l)) ts (spell_item l.last (sign 59 ∷ rest)) rest (ItemsFit kind row l.earlier) (ItemFits kind wider l.last) _ (λ fits. fits.0) (λ fits. fits.1)
    (lead_earlier h row kind l.earlier ts _ are.1 e)
    (λ ts e. lead_item h wider kind l.last 59 (λ row. Fields h row) ts rest refl (λ row place. refl) are.2 e))

-- field lines lead on, where they fit
pub lead_lines : (h : Header) (row : Row) (lines : List FieldLine) (ts : List Token) (rest : Spelling) → AreLines lines → spelling ts ≡ spell_lines lines rest → Leads (Fields h row) ts (Fields h (and_lines row lines)) rest (LinesFit row lines)
lead_lines h row [] ts rest are e = inl (record { used = []; tokens = ts; split = refl; are = e; same = refl })
lead_lines h row (l ∷ lines) ts rest are e =
    lead_on (Fields h row) (Fields h (and_line row l)) _ ts (spell_lines lines rest) rest _ (LinesFit (and_line row l) lines) _ (λ fits. fits.0) (λ fits. fits.1)
    (lead_line h row l ts (spell_lines lines rest) are.0 e)
    (λ ts e. lead_lines h (and_line row l) lines ts rest are.1 e)

lead_struct : (h : Header) (lines : List FieldLine) (size : Option ℕ) (ts : List Token) (rest : Spelling) → AreLines lines → IsSize size → spelling ts ≡ spell (Struct lines size) rest
    → Leads (Start h) ts (Start (with_struct h (record { row = and_lines no_fields lines; size = size }))) rest ((is_some h.table ≡ false) × LinesFit no_fields lines)
lead_struct h lines size ts rest are sized e =
    let row = and_lines no_fields lines in
    let behind = sign 125 ∷ sign 91 ∷ spell_size size (sign 93 ∷ sign 59 ∷ rest) in
    let later = Start (with_struct h (record { row = row; size = size })) in
    lead_on (Start h) (Wants 123 (Fields h no_fields)) later ts (sign 123 ∷ spell_lines lines behind) rest (is_some h.table ≡ false) (LinesFit no_fields lines) _ (λ fits. fits.0) (λ fits. fits.1)
    (one_or (is_some h.table) (Start h) (Wants 123 (Fields h no_fields)) ts (word (codes "struct")) _ faults.SecondStruct tt e (λ b place. (place, rw b refl)) (λ b place. rw b refl)) (λ ts e.
    on_lead (Wants 123 (Fields h no_fields)) (Fields h no_fields) later ts (spell_lines lines behind) rest _ (one (Wants 123 (Fields h no_fields)) (Fields h no_fields) ts (sign 123) _ e (λ place. refl)) (λ ts e.
    lead_then (Fields h no_fields) (Fields h row) later ts behind rest _ (lead_lines h no_fields lines ts behind are e) (λ ts e.
    on (Fields h row) (Wants 91 (StructSize h row)) later ts (sign 91 ∷ spell_size size (sign 93 ∷ sign 59 ∷ rest)) rest (one (Fields h row) (Wants 91 (StructSize h row)) ts (sign 125) _ e (λ place. refl)) (λ ts e.
    on (Wants 91 (StructSize h row)) (StructSize h row) later ts (spell_size size (sign 93 ∷ sign 59 ∷ rest)) rest (one (Wants 91 (StructSize h row)) (StructSize h row) ts (sign 91) _ e (λ place. refl)) (λ ts e.
    on (StructSize h row) (closed h row size) later ts (sign 59 ∷ rest) rest (lead_size (StructSize h row) (closed h row) size ts (sign 59 ∷ rest) (λ t. refl) sized e) (λ ts e.
    one (closed h row size) later ts (sign 59) rest e (λ place. refl)))))))

-- ---- statements

-- a statement leads on, where it fits
pub lead_statement : (h : Header) (s : Statement) (ts : List Token) (rest : Spelling) → IsStatement s → spelling ts ≡ spell s rest → Leads (Start h) ts (Start (and_statement h s)) rest (Fits h s)
lead_statement h (Parameter name token value) ts rest is e = lead_parameter h name token value ts rest is e
lead_statement h (Constant t name token value) ts rest is e = lead_constant h t name token value ts rest is.0 is.1 e
lead_statement h (Label t name size) ts rest is e = lead_label h t name size ts rest is.0 is.1 is.2 e
lead_statement h (Struct lines size) ts rest is e = lead_struct h lines size ts rest is.0 is.1 e

-- the tokens of statements lead to their end, or halt since the statements do not fit
pub lead_all : (h : Header) (ss : List Statement) (ts : List Token) → AreStatements ss → spelling ts ≡ spell_each ss (Some End ∷ []) → Leads (Start h) ts (Done (and_statements h ss)) [] (AllFit h ss)
lead_all h [] ts are e = inl (one (Start h) (Done h) ts (Some End) [] e (λ place. refl))
lead_all h (s ∷ ss) ts are e =
    lead_on (Start h) (Start (and_statement h s)) (Done (and_statements h (s ∷ ss))) ts (spell_each ss (Some End ∷ [])) [] (Fits h s) (AllFit (and_statement h s) ss) _ (λ fits. fits.0) (λ fits. fits.1)
    (lead_statement h s ts (spell_each ss (Some End ∷ [])) are.0 e)
    (λ ts e. lead_all (and_statement h s) ss ts are.1 e)

no_tokens : (ts : List Token) → spelling ts ≡ [] → ts ≡ []
no_tokens [] e = refl
no_tokens (t ∷ ts) e = absurd cc

-- where the statements fit, the run ends with what they say
pub ends_well : (h : Header) (ss : List Statement) (ts : List Token) → AreStatements ss → spelling ts ≡ spell_each ss (Some End ∷ []) → AllFit h ss → goes (Start h) ts ≡ Ok (Done (and_statements h ss))
unfolding goes
ends_well h ss ts are e fit =
    elim (lead_all h ss ts are e) [
      | inl g ↦ g.same ∙ ap (goes (Done (and_statements h ss))) (no_tokens g.tokens g.are)
      | inr halts ↦ absurd (halts.1 fit)
    ]

-- a run of whole statements halts by their sense alone
abbrev pub EndsOrBySense : Result State Halt → Type 0
EndsOrBySense (Ok s) = Unit {0}
EndsOrBySense (Err e) = IsOfSense e.kind

by_sense : (r : Result State Halt) → HaltsBySense r → EndsOrBySense r
by_sense (Ok s) h = tt
by_sense (Err e) h = h

-- the tokens of statements lead to the end, or halt by their sense
pub no_bad_spelling : (h : Header) (ss : List Statement) (ts : List Token) → AreStatements ss → spelling ts ≡ spell_each ss (Some End ∷ []) → EndsOrBySense (goes (Start h) ts)
unfolding goes
no_bad_spelling h ss ts are e =
    elim (lead_all h ss ts are e) [
      | inl g ↦ subst EndsOrBySense (sym (g.same ∙ ap (goes (Done (and_statements h ss))) (no_tokens g.tokens g.are))) tt
      | inr halts ↦ by_sense (goes (Start h) ts) halts.0
    ]

-- statements lead on to what is behind them
pub lead_each : (h : Header) (ss : List Statement) (ts : List Token) (rest : Spelling) → AreStatements ss → spelling ts ≡ spell_each ss rest → Leads (Start h) ts (Start (and_statements h ss)) rest (AllFit h ss)
lead_each h [] ts rest are e = inl (record { used = []; tokens = ts; split = refl; are = e; same = refl })
lead_each h (s ∷ ss) ts rest are e =
    lead_on (Start h) (Start (and_statement h s)) (Start (and_statements h (s ∷ ss))) ts (spell_each ss rest) rest (Fits h s) (AllFit (and_statement h s) ss) _ (λ fits. fits.0) (λ fits. fits.1)
    (lead_statement h s ts (spell_each ss rest) are.0 e)
    (λ ts e. lead_each (and_statement h s) ss ts rest are.1 e)

-- what fits goes on
pub since_fits : (s later : State) (ts : List Token) (rest : Spelling) (p : Type 0) → Leads s ts later rest p → p → GoesOn s ts later rest
since_fits s later ts rest p (inl g) fits = g
since_fits s later ts rest p (inr halts) fits = absurd (halts.1 fits)
