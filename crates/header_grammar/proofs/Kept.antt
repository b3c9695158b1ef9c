-- What is known of the tokens before a state: whose place it keeps, and where `unsigned` leads.
use Rattle.std.proofs.Common.{◌≡◌, ℕ, true, false, cond, ◌&&◌, inl, inr, List, [], ◌∷◌, ◌++◌, length, Option, Some, None, Result, Ok, Err, refl, sym, ap, subst, ◌∙◌, append_assoc}
use Rattle.std.specs.Prelude.{option_and_then, is_some, codes, ◌==◌}
use Rattle.std.specs.Str.{bytes_eq}
use Rattle.std.proofs.lemmas.List.{append-nil}
use Rattle.hot_units.specs.Limits.{max_columns}
use Rattle.sdf_tokens.specs.declared.fault.FaultKind.{FaultKind}
use Rattle.sdf_tokens.specs.declared.fault.FaultKind.TheVariants as faults
use Rattle.sdf_header.specs.declared.kind.Kind.{Kind}
use Rattle.sdf_header.specs.declared.document.Value.TheVariants as values
use Rattle.sdf_tokens.specs.Tokens.{Lexeme}
use Rattle.header_grammar.specs.TokenList.{Token}
use Rattle.sdf_header.specs.Types.{is_char}
use Rattle.sdf_header.specs.Parts.{size_of, unsigned_type}
use Rattle.sdf_header.specs.Fields.{Row, has_field, length_of, no_fields}
use Rattle.sdf_header.specs.Statements.{Header, nothing_given, value_of, number_for}
use Rattle.header_grammar.specs.Grammar.{Spelling, spelling, word, sign}
use Rattle.header_grammar.proofs.Machine.{Halt, halt, State, Done, Start, Wants, ParamName, ParamValue, Unsigned, Typed, Named, NumberFor, TextSize, TextValue, Fields, FieldUnsigned, Item as AtItem, ItemName, Length, ItemEnd, StructSize, wanted, has, ends, word_in, widened, or_halt, given, closed, on_type, on_statement, on_name, on_item, on_item_end, text_in, step, and_then, goes}
use Rattle.header_grammar.proofs.Sits.{InLine, Sits, sits_on, wanted_is, or_halt_is, fresh_is, type_is, word_is, sign_is}
use Rattle.header_grammar.proofs.Faults.{spelling-append}
use Rattle.sdf_header.proofs.Choices.{either}

-- ---- the places that a state keeps

-- the token of this place, before so many others
pub record Kept (ts : List Token) (place : ℕ) (x : Option Lexeme) (behind : Spelling) : Type 0 where
  pub before : List Token
  pub token : Token
  pub after : List Token
  pub is : ts ≡ before ++ token ∷ after
  pub stands : token.place ≡ place
  pub lexeme : token.lexeme ≡ x
  pub spelled : spelling after ≡ behind

-- and the columns that stand before it
pub record KeptItem (h : Header) (row : Row) (kind : Kind) (ts : List Token) (place : ℕ) (name : List ℕ) (behind : Spelling) : Type 0 where
  pub kept : Kept ts place (word name) behind
  pub line : InLine h row kind (spelling kept.before) (λ rest. rest)
  pub new : has_field name row.fields ≡ false

-- what follows a sign keeps no place
abbrev pub KeepsNone : State → Type 0
KeepsNone (Done h) = Unit {0}
KeepsNone (Start h) = Unit {0}
KeepsNone (Wants s after) = KeepsNone after
KeepsNone (ParamName h) = Unit {0}
KeepsNone (ParamValue h name) = Unit {0}
KeepsNone (Unsigned h p) = ⊥
KeepsNone (Typed h kind) = Unit {0}
KeepsNone (Named h kind name) = Unit {0}
KeepsNone (NumberFor h kind name) = Unit {0}
KeepsNone (TextSize h name) = Unit {0}
KeepsNone (TextValue h name) = Unit {0}
KeepsNone (Fields h row) = Unit {0}
KeepsNone (FieldUnsigned h row p) = ⊥
KeepsNone (AtItem h row kind) = Unit {0}
KeepsNone (ItemName h row kind name p) = ⊥
KeepsNone (Length h row kind name p) = ⊥
KeepsNone (ItemEnd h row kind) = Unit {0}
KeepsNone (StructSize h row) = Unit {0}

-- a place is kept, and behind a sign that is wanted none is
abbrev pub Holds : State → List Token → Type 0
Holds (Done h) ts = Unit {0}
Holds (Start h) ts = Unit {0}
Holds (Wants s after) ts = KeepsNone after
Holds (ParamName h) ts = Unit {0}
Holds (ParamValue h name) ts = Unit {0}
Holds (Unsigned h p) ts = Kept ts p (word (codes "unsigned")) []
Holds (Typed h kind) ts = Unit {0}
Holds (Named h kind name) ts = Unit {0}
Holds (NumberFor h kind name) ts = Unit {0}
Holds (TextSize h name) ts = Unit {0}
Holds (TextValue h name) ts = Unit {0}
Holds (Fields h row) ts = Unit {0}
Holds (FieldUnsigned h row p) ts = Kept ts p (word (codes "unsigned")) []
Holds (AtItem h row kind) ts = Unit {0}
Holds (ItemName h row kind name p) ts = KeptItem h row kind ts p name []
Holds (Length h row kind name p) ts = KeptItem h row kind ts p name (sign 91 ∷ [])
Holds (ItemEnd h row kind) ts = Unit {0}
Holds (StructSize h row) ts = Unit {0}

-- a state that keeps no place keeps what is asked
pub keeps_none : (s : State) (ts : List Token) → KeepsNone s → Holds s ts
keeps_none (Done h) ts k = tt
keeps_none (Start h) ts k = tt
keeps_none (Wants s after) ts k = k
keeps_none (ParamName h) ts k = tt
keeps_none (ParamValue h name) ts k = tt
keeps_none (Unsigned h p) ts k = absurd k
keeps_none (Typed h kind) ts k = tt
keeps_none (Named h kind name) ts k = tt
keeps_none (NumberFor h kind name) ts k = tt
keeps_none (TextSize h name) ts k = tt
keeps_none (TextValue h name) ts k = tt
keeps_none (Fields h row) ts k = tt
keeps_none (FieldUnsigned h row p) ts k = absurd k
keeps_none (AtItem h row kind) ts k = tt
keeps_none (ItemName h row kind name p) ts k = absurd k
keeps_none (Length h row kind name p) ts k = absurd k
keeps_none (ItemEnd h row kind) ts k = tt
keeps_none (StructSize h row) ts k = tt

-- equal states of two runs are equal
pub ok_is : (s s1 : State) → ◌≡◌ {A = Result State Halt} (Ok s) (Ok s1) → s ≡ s1
ok_is s s1 e = cc

-- a halt is no state
pub err_ok : {B : Type 0} (k : FaultKind) (p : ℕ) (s : State) → halt k p ≡ Ok s → B
err_ok k p s e = absurd cc

-- what holds of a state holds of one that is equal
pub holds : (s s1 : State) (ts : List Token) → ◌≡◌ {A = Result State Halt} (Ok s) (Ok s1) → Holds s ts → Holds s1 ts
holds s s1 ts e h = subst (λ s. Holds s ts) (ok_is s s1 e) h

-- the last token is kept
pub last_kept : (ts : List Token) (t : Token) (x : Option Lexeme) → t.lexeme ≡ x → Kept (ts ++ t ∷ []) t.place x []
last_kept ts t x e = record { before = ts; token = t; after = []; is = refl; stands = refl; lexeme = e; spelled = refl }

-- one token
abbrev pub alone : Option Lexeme → Spelling
alone x = x ∷ []

-- and one behind it
pub kept_on : (ts : List Token) (t : Token) (p : ℕ) (x y : Option Lexeme) → t.lexeme ≡ y → Kept ts p x [] → Kept (ts ++ t ∷ []) p x (y ∷ [])
kept_on ts t p x y e k = record {
  before = k.before;
  token = k.token;
  after = k.after ++ t ∷ [];
  is = ap (λ a. a ++ t ∷ []) k.is ∙ append_assoc k.before (k.token ∷ k.after) (t ∷ []);
  stands = k.stands;
  lexeme = k.lexeme;
  spelled = spelling-append k.after (t ∷ []) ∙ ap (λ a. a ++ t.lexeme ∷ []) k.spelled ∙ ap alone e;
}

-- `unsigned` keeps its place
pub type_holds : (typed : Kind → State) (u : State) (ts : List Token) (t : Token) (w : List ℕ) (s1 : State) → t.lexeme ≡ word w → ((kind : Kind) → Holds (typed kind) (ts ++ t ∷ [])) → (t.lexeme ≡ word (codes "unsigned") → Holds u (ts ++ t ∷ [])) → on_type t.place typed u w ≡ Ok s1 → Holds s1 (ts ++ t ∷ [])
type_holds typed u ts t w s1 x h g e =
    elim (type_is t.place typed u w s1 e) [
      | inl c ↦ holds u s1 (ts ++ t ∷ []) c.1 (g (x ∙ ap (λ n. word n) c.0))
      | inr k ↦ holds (typed k.0) s1 (ts ++ t ∷ []) k.2 (h k.0)
    ]

-- behind an item no place is kept
pub item_end_holds : (h : Header) (row : Row) (kind : Kind) (ts : List Token) (t : Token) (s1 : State) → on_item_end h row kind t ≡ Ok s1 → Holds s1 ts
item_end_holds h row kind ts t s1 e =
    elim (either (has 59 t.lexeme) (Ok (Fields h row)) (cond (has 44 t.lexeme) (Ok (AtItem h row kind)) (halt faults.Syntax t.place)) (Ok s1) e) [
      | inl a ↦ holds (Fields h row) s1 ts a.1 tt
      | inr f ↦
          elim (either (has 44 t.lexeme) (Ok (AtItem h row kind)) (halt faults.Syntax t.place) (Ok s1) f.1) [
            | inl a ↦ holds (AtItem h row kind) s1 ts a.1 tt
            | inr g ↦ err_ok faults.Syntax t.place s1 g.1
          ]
    ]

-- a step keeps the places
pub holds_on : (s s1 : State) (ts : List Token) (t : Token) → step s t ≡ Ok s1 → Sits s (spelling ts) → Holds s ts → Holds s1 (ts ++ t ∷ [])
unfolding last_kept kept_on
holds_on (Done h) s1 ts t e sits k = err_ok faults.Syntax t.place s1 e
holds_on (Start h) s1 ts t e sits k =
    elim (either (ends t.lexeme) (Ok (Done h)) (wanted t.place (word_in t.lexeme) (on_statement h t.place)) (Ok s1) e) [
      | inl a ↦ holds (Done h) s1 _ a.1 tt
      | inr f ↦
          (let w = wanted_is t.place (word_in t.lexeme) (on_statement h t.place) s1 f.1 in
          elim (either (bytes_eq w.0 (codes "parameter")) (Ok (ParamName h)) (cond (bytes_eq w.0 (codes "struct")) (cond (is_some h.table) (halt faults.SecondStruct t.place) (Ok (Wants 123 (Fields h no_fields)))) (on_type t.place (Typed h) (Unsigned h t.place) w.0)) (Ok s1) w.2) [
            | inl a ↦ holds (ParamName h) s1 _ a.1 tt
            | inr f ↦
                elim (either (bytes_eq w.0 (codes "struct")) (cond (is_some h.table) (halt faults.SecondStruct t.place) (Ok (Wants 123 (Fields h no_fields)))) (on_type t.place (Typed h) (Unsigned h t.place) w.0) (Ok s1) f.1) [
                  | inl a ↦
                      elim (either (is_some h.table) (halt faults.SecondStruct t.place) (Ok (Wants 123 (Fields h no_fields))) (Ok s1) a.1) [
                        | inl b ↦ err_ok faults.SecondStruct t.place s1 b.1
                        | inr b ↦ holds (Wants 123 (Fields h no_fields)) s1 _ b.1 tt
                      ]
                  | inr g ↦ type_holds (Typed h) (Unsigned h t.place) ts t w.0 s1 (word_is t.lexeme w.0 w.1) (λ kind. tt) (λ x. last_kept ts t (word (codes "unsigned")) x) g.1
                ]
          ])
    ]
holds_on (Wants s after) s1 ts t e sits k =
    elim (either (has s t.lexeme) (Ok after) (halt faults.Syntax t.place) (Ok s1) e) [
      | inl a ↦ holds after s1 _ a.1 (keeps_none after _ k)
      | inr f ↦ err_ok faults.Syntax t.place s1 f.1
    ]
holds_on (ParamName h) s1 ts t e sits k =
    (let w = fresh_is h t.place (λ w. Wants 61 (ParamValue h w)) t.lexeme s1 e in holds (Wants 61 (ParamValue h w.0)) s1 _ w.3 tt)
holds_on (ParamValue h name) s1 ts t e sits k =
    (let w = wanted_is t.place (option_and_then value_of t.lexeme) (λ v. Ok (given h name v)) s1 e in holds (given h name w.0) s1 _ w.2 tt)
holds_on (Unsigned h q) s1 ts t e sits k =
    (let w = or_halt_is faults.UnknownType q (option_and_then unsigned_type t.lexeme) (λ kind. Ok (Typed h kind)) s1 e in holds (Typed h w.0) s1 _ w.2 tt)
holds_on (Typed h kind) s1 ts t e sits k =
    (let w = fresh_is h t.place (λ w. Named h kind w) t.lexeme s1 e in holds (Named h kind w.0) s1 _ w.3 tt)
holds_on (Named h kind name) s1 ts t e sits k =
    elim (either (has 61 t.lexeme) (Ok (NumberFor h kind name)) (cond (has 91 t.lexeme && is_char kind) (Ok (TextSize h name)) (halt faults.Syntax t.place)) (Ok s1) e) [
      | inl a ↦ holds (NumberFor h kind name) s1 _ a.1 tt
      | inr f ↦
          elim (either (has 91 t.lexeme && is_char kind) (Ok (TextSize h name)) (halt faults.Syntax t.place) (Ok s1) f.1) [
            | inl a ↦ holds (TextSize h name) s1 _ a.1 tt
            | inr g ↦ err_ok faults.Syntax t.place s1 g.1
          ]
    ]
holds_on (NumberFor h kind name) s1 ts t e sits k =
    (let w = wanted_is t.place (option_and_then (number_for kind) t.lexeme) (λ v. Ok (given h name v)) s1 e in holds (given h name w.0) s1 _ w.2 tt)
holds_on (TextSize h name) s1 ts t e sits k =
    elim (either (has 93 t.lexeme) (Ok (Wants 61 (TextValue h name))) (wanted t.place (option_and_then size_of t.lexeme) (λ n. Ok (Wants 93 (Wants 61 (TextValue h name))))) (Ok s1) e) [
      | inl a ↦ holds (Wants 61 (TextValue h name)) s1 _ a.1 tt
      | inr f ↦ (let n = wanted_is t.place (option_and_then size_of t.lexeme) (λ n. Ok (Wants 93 (Wants 61 (TextValue h name)))) s1 f.1 in holds (Wants 93 (Wants 61 (TextValue h name))) s1 _ n.2 tt)
    ]
holds_on (TextValue h name) s1 ts t e sits k =
    (let w = wanted_is t.place (option_and_then text_in t.lexeme) (λ v. Ok (given h name values.Other)) s1 e in holds (given h name values.Other) s1 _ w.2 tt)
holds_on (Fields h row) s1 ts t e sits k =
    elim (either (has 125 t.lexeme) (Ok (Wants 91 (StructSize h row))) (wanted t.place (word_in t.lexeme) (on_type t.place (AtItem h row) (FieldUnsigned h row t.place))) (Ok s1) e) [
      | inl a ↦ holds (Wants 91 (StructSize h row)) s1 _ a.1 tt
      | inr f ↦
          (let w = wanted_is t.place (word_in t.lexeme) (on_type t.place (AtItem h row) (FieldUnsigned h row t.place)) s1 f.1 in
          type_holds (AtItem h row) (FieldUnsigned h row t.place) ts t w.0 s1 (word_is t.lexeme w.0 w.1) (λ kind. tt) (λ x. last_kept ts t (word (codes "unsigned")) x) w.2)
    ]
holds_on (FieldUnsigned h row q) s1 ts t e sits k =
    (let w = or_halt_is faults.UnknownType q (option_and_then unsigned_type t.lexeme) (λ kind. Ok (AtItem h row kind)) s1 e in holds (AtItem h row w.0) s1 _ w.2 tt)
holds_on (AtItem h row kind) s1 ts t e sits k =
    (let w = wanted_is t.place (word_in t.lexeme) (on_item h row kind t.place) s1 e in
    elim (either (has_field w.0 row.fields) (halt faults.NameTwice t.place) (cond (length row.fields == max_columns) (halt faults.TooWide t.place) (Ok (ItemName h row kind w.0 t.place))) (Ok s1) w.2) [
      | inl a ↦ err_ok faults.NameTwice t.place s1 a.1
      | inr f ↦
          elim (either (length row.fields == max_columns) (halt faults.TooWide t.place) (Ok (ItemName h row kind w.0 t.place)) (Ok s1) f.1) [
            | inl a ↦ err_ok faults.TooWide t.place s1 a.1
            | inr g ↦ holds (ItemName h row kind w.0 t.place) s1 _ g.1 (record { kept = last_kept ts t (word w.0) (word_is t.lexeme w.0 w.1); line = sits; new = f.0 })
          ]
    ])
holds_on (ItemName h row kind name q) s1 ts t e sits k =
    elim (either (has 91 t.lexeme) (Ok (Length h row kind name q)) (or_halt faults.TooWide q (widened row kind name 1 false) (λ wider. on_item_end h wider kind t)) (Ok s1) e) [
      | inl a ↦ holds (Length h row kind name q) s1 _ a.1 (record { kept = kept_on ts t q (word name) (sign 91) (sign_is 91 t.lexeme a.0) k.kept; line = k.line; new = k.new })
      | inr f ↦ (let w = or_halt_is faults.TooWide q (widened row kind name 1 false) (λ wider. on_item_end h wider kind t) s1 f.1 in item_end_holds h w.0 kind _ t s1 w.2)
    ]
holds_on (Length h row kind name q) s1 ts t e sits k =
    (let n = wanted_is t.place (option_and_then length_of t.lexeme) (λ n. or_halt faults.TooWide q (widened row kind name n true) (λ wider. Ok (Wants 93 (ItemEnd h wider kind)))) s1 e in
    let w = or_halt_is faults.TooWide q (widened row kind name n.0 true) (λ wider. Ok (Wants 93 (ItemEnd h wider kind))) s1 n.2 in
    holds (Wants 93 (ItemEnd h w.0 kind)) s1 _ w.2 tt)
holds_on (ItemEnd h row kind) s1 ts t e sits k = item_end_holds h row kind _ t s1 e
holds_on (StructSize h row) s1 ts t e sits k =
    elim (either (has 93 t.lexeme) (Ok (closed h row None)) (wanted t.place (option_and_then size_of t.lexeme) (λ n. Ok (Wants 93 (closed h row (Some n))))) (Ok s1) e) [
      | inl a ↦ holds (closed h row None) s1 _ a.1 tt
      | inr f ↦ (let n = wanted_is t.place (option_and_then size_of t.lexeme) (λ n. Ok (Wants 93 (closed h row (Some n)))) s1 f.1 in holds (Wants 93 (closed h row (Some n.0))) s1 _ n.2 tt)
    ]

-- a run that halts reaches no state
pub err_okh : {B : Type 0} (e : Halt) (s : State) → ◌≡◌ {A = Result State Halt} (Err e) (Ok s) → B
err_okh e s is = absurd cc

-- a run keeps the places
pub holds_all : (ts : List Token) (s s1 : State) (b : List Token) → goes s ts ≡ Ok s1 → Sits s (spelling b) → Holds s b → Holds s1 (b ++ ts)
unfolding goes
holds_all [] s s1 b e sits h = subst (λ x. Holds s1 x) (sym (append-nil b)) (holds s s1 b e h)
holds_all (t ∷ ts) s s1 b e sits h = go (step s t) refl e (λ s' e' sits' h'. holds_all ts s' s1 (b ++ t ∷ []) e' sits' h')
  where
    go : (r : Result State Halt) → step s t ≡ r → and_then r (λ s. goes s ts) ≡ Ok s1 → ((s' : State) → goes s' ts ≡ Ok s1 → Sits s' (spelling (b ++ t ∷ [])) → Holds s' (b ++ t ∷ []) → Holds s1 ((b ++ t ∷ []) ++ ts)) → Holds s1 (b ++ t ∷ ts)
    go (Err x) is e ih = err_okh x s1 e
    go (Ok s') is e ih = subst (λ x. Holds s1 x) (append_assoc b (t ∷ []) ts) (ih s' e (subst (λ x. Sits s' x) (sym (spelling-append b (t ∷ []))) (sits_on s s' (spelling b) t.lexeme t.place is sits)) (holds_on s s' b t is sits h))

-- ---- behind `unsigned`

-- the states behind a word that may be `unsigned`
abbrev pub TakesUnsigned : State → Type 0
TakesUnsigned (Done h) = ⊥
TakesUnsigned (Start h) = ⊥
TakesUnsigned (Wants s after) = Unit {0}
TakesUnsigned (ParamName h) = ⊥
TakesUnsigned (ParamValue h name) = ⊥
TakesUnsigned (Unsigned h p) = Unit {0}
TakesUnsigned (Typed h kind) = ⊥
TakesUnsigned (Named h kind name) = Unit {0}
TakesUnsigned (NumberFor h kind name) = ⊥
TakesUnsigned (TextSize h name) = ⊥
TakesUnsigned (TextValue h name) = ⊥
TakesUnsigned (Fields h row) = ⊥
TakesUnsigned (FieldUnsigned h row p) = Unit {0}
TakesUnsigned (AtItem h row kind) = ⊥
TakesUnsigned (ItemName h row kind name p) = Unit {0}
TakesUnsigned (Length h row kind name p) = ⊥
TakesUnsigned (ItemEnd h row kind) = ⊥
TakesUnsigned (StructSize h row) = ⊥

-- what takes `unsigned` is equal to what does
pub takes : (s s1 : State) → ◌≡◌ {A = Result State Halt} (Ok s) (Ok s1) → TakesUnsigned s → TakesUnsigned s1
takes s s1 e t = subst TakesUnsigned (ok_is s s1 e) t

-- a name that is given leads to a state that takes `unsigned`
pub name_takes : (h : Header) (p : ℕ) (named : List ℕ → State) (w : List ℕ) (s1 : State) → TakesUnsigned (named w) → on_name h p named w ≡ Ok s1 → TakesUnsigned s1
name_takes h p named w s1 t e =
    elim (either (is_some (h.given w)) (halt faults.NameTwice p) (Ok (named w)) (Ok s1) e) [
      | inl a ↦ err_ok faults.NameTwice p s1 a.1
      | inr b ↦ takes (named w) s1 b.1 t
    ]

-- behind the word `unsigned` stands a state that takes it
pub on_unsigned : (s s1 : State) (p : ℕ) → step s (record { lexeme = word (codes "unsigned"); place = p }) ≡ Ok s1 → TakesUnsigned s1
on_unsigned (Done h) s1 p e = err_ok faults.Syntax p s1 e
on_unsigned (Start h) s1 p e = takes (Unsigned h p) s1 e tt
on_unsigned (Wants s after) s1 p e = err_ok faults.Syntax p s1 e
on_unsigned (ParamName h) s1 p e = name_takes h p (λ w. Wants 61 (ParamValue h w)) (codes "unsigned") s1 tt e
on_unsigned (ParamValue h name) s1 p e = takes (given h name values.Other) s1 e tt
on_unsigned (Unsigned h q) s1 p e = err_ok faults.UnknownType q s1 e
on_unsigned (Typed h kind) s1 p e = name_takes h p (λ w. Named h kind w) (codes "unsigned") s1 tt e
on_unsigned (Named h kind name) s1 p e = err_ok faults.Syntax p s1 e
on_unsigned (NumberFor h kind name) s1 p e = err_ok faults.Syntax p s1 e
on_unsigned (TextSize h name) s1 p e = err_ok faults.Syntax p s1 e
on_unsigned (TextValue h name) s1 p e = err_ok faults.Syntax p s1 e
on_unsigned (Fields h row) s1 p e = takes (FieldUnsigned h row p) s1 e tt
on_unsigned (FieldUnsigned h row q) s1 p e = err_ok faults.UnknownType q s1 e
on_unsigned (AtItem h row kind) s1 p e =
    elim (either (has_field (codes "unsigned") row.fields) (halt faults.NameTwice p) (cond (length row.fields == max_columns) (halt faults.TooWide p) (Ok (ItemName h row kind (codes "unsigned") p))) (Ok s1) e) [
      | inl a ↦ err_ok faults.NameTwice p s1 a.1
      | inr f ↦
          elim (either (length row.fields == max_columns) (halt faults.TooWide p) (Ok (ItemName h row kind (codes "unsigned") p)) (Ok s1) f.1) [
            | inl a ↦ err_ok faults.TooWide p s1 a.1
            | inr g ↦ takes (ItemName h row kind (codes "unsigned") p) s1 g.1 tt
          ]
    ]
on_unsigned (ItemName h row kind name q) s1 p e =
    (let w = or_halt_is faults.TooWide q (widened row kind name 1 false) (λ wider. on_item_end h wider kind (record { lexeme = word (codes "unsigned"); place = p })) s1 e in err_ok faults.Syntax p s1 w.2)
on_unsigned (Length h row kind name q) s1 p e = err_ok faults.Syntax p s1 e
on_unsigned (ItemEnd h row kind) s1 p e = err_ok faults.Syntax p s1 e
on_unsigned (StructSize h row) s1 p e = err_ok faults.Syntax p s1 e

-- the last of two equal lists
pub last_or : Option Lexeme → Spelling → Option Lexeme
last_or d [] = d
last_or d (x ∷ xs) = last_or x xs

-- the last of a list with one more is that one
pub last_is : (xs : Spelling) (d x : Option Lexeme) → last_or d (xs ++ x ∷ []) ≡ x
unfolding last_or
last_is [] d x = refl
last_is (y ∷ xs) d x = last_is xs y x

-- equal lists end alike
pub same_last : (a b : Spelling) (x y : Option Lexeme) → a ++ x ∷ [] ≡ b ++ y ∷ [] → x ≡ y
same_last a b x y e = sym (last_is a None x) ∙ ap (last_or None) e ∙ last_is b None y

-- a state behind `unsigned` is one of those
abbrev pub AfterUnsigned : State → Spelling → Type 0
AfterUnsigned s b = (front : Spelling) → b ≡ front ++ word (codes "unsigned") ∷ [] → TakesUnsigned s

-- a step leads behind `unsigned` to a state that takes it
pub after_on : (s s1 : State) (b : Spelling) (t : Token) → step s t ≡ Ok s1 → AfterUnsigned s1 (b ++ t.lexeme ∷ [])
after_on s s1 b t e front is =
    on_unsigned s s1 t.place (subst (λ x. step s (record { lexeme = x; place = t.place }) ≡ Ok s1) (same_last b front t.lexeme (word (codes "unsigned")) is) e)

-- a run does so too
pub after_all : (ts : List Token) (s s1 : State) (b : Spelling) → goes s ts ≡ Ok s1 → AfterUnsigned s b → AfterUnsigned s1 (b ++ spelling ts)
unfolding goes
after_all [] s s1 b e after = subst (λ x. AfterUnsigned s1 x) (sym (append-nil b)) (subst (λ s. AfterUnsigned s b) (ok_is s s1 e) after)
after_all (t ∷ ts) s s1 b e after = go (step s t) refl e (λ s' e' after'. after_all ts s' s1 (b ++ t.lexeme ∷ []) e' after')
  where
    go : (r : Result State Halt) → step s t ≡ r → and_then r (λ s. goes s ts) ≡ Ok s1 → ((s' : State) → goes s' ts ≡ Ok s1 → AfterUnsigned s' (b ++ t.lexeme ∷ []) → AfterUnsigned s1 ((b ++ t.lexeme ∷ []) ++ spelling ts)) → AfterUnsigned s1 (b ++ t.lexeme ∷ spelling ts)
    go (Err x) is e ih = err_okh x s1 e
    go (Ok s') is e ih = subst (λ x. AfterUnsigned s1 x) (append_assoc b (t.lexeme ∷ []) (spelling ts)) (ih s' e (after_on s s' b t is))

-- nothing stands behind `unsigned` at the start
pub nothing_after : AfterUnsigned (Start nothing_given) []
nothing_after [] e = absurd cc
nothing_after (x ∷ front) e = absurd cc
