-- What the token decides at which a run halts.
use Rattle.std.proofs.Common.{◌≡◌, ℕ, ◌+◌, ◌*◌, ◌-◌, Bool, true, false, cond, ◌&&◌, ◌⊎◌, inl, inr, List, [], ◌∷◌, ◌++◌, length, Option, Some, None, Result, Ok, Err, refl, sym, ap, subst, ◌∙◌, append_assoc}
use Rattle.std.specs.Prelude.{option_and_then, is_some, codes, nat_lt, ◌==◌}
use Rattle.std.specs.Str.{bytes_eq}
use Rattle.std.proofs.lemmas.List.{append-nil}
use Rattle.std.proofs.lemmas.Slice.Eq.{bytes_eq-Decides}
use Rattle.hot_units.specs.Limits.{max_columns, max_row_bytes}
use Rattle.sdf_tokens.specs.declared.fault.Fault.{Fault}
use Rattle.sdf_tokens.specs.declared.fault.FaultKind.{FaultKind}
use Rattle.sdf_tokens.specs.declared.fault.FaultKind.TheVariants as faults
use Rattle.sdf_header.specs.declared.kind.Kind.{Kind}
use Rattle.sdf_header.specs.declared.kind.Kind.TheVariants as kinds
use Rattle.sdf_header.specs.declared.kind.Whole.TheVariants as wholes
use Rattle.sdf_header.specs.declared.document.Value.TheVariants as values
use Rattle.sdf_tokens.specs.Tokens.{Lexeme}
use Rattle.header_grammar.specs.TokenList.{Token, tokens}
use Rattle.sdf_header.specs.Types.{kind_named, bytes_of, is_char}
use Rattle.sdf_header.specs.Parts.{size_of, unsigned_type}
use Rattle.sdf_header.specs.Fields.{Row, has_field, length_of, no_fields}
use Rattle.sdf_header.specs.Statements.{Header, nothing_given, value_of, number_for, header_in}
use Rattle.header_grammar.specs.Grammar.{Spelling, spelling, word, sign, and_items, ItemsFit}
use Rattle.header_grammar.specs.Faults.{Continues, Stops, TypeWanted, BehindUnsigned, IsTypeWord, StandsBehind, IsLead, ColumnStands, HasValues, Plain, Array, Decides, FaultAt}
use Rattle.header_grammar.specs.Judgement.{IsOfSense}
use Rattle.header_grammar.proofs.Machine.{Halt, halt, State, Done, Start, Wants, ParamName, ParamValue, Unsigned, Typed, Named, NumberFor, TextSize, TextValue, Fields, FieldUnsigned, Item as AtItem, ItemName, Length, ItemEnd, StructSize, wanted, has, ends, word_in, widened, or_halt, given, closed, on_type, on_statement, on_name, on_item, on_item_end, text_in, step, goes}
use Rattle.header_grammar.proofs.Simulation.{onward, done, header_goes}
use Rattle.header_grammar.proofs.Sits.{Before, InLine, Sits, sits_on, word_is, length_is, token_is}
use Rattle.header_grammar.proofs.Faults.{continues, dead_end, spelling-append, halted, sits_all, nothing_sits, front_continues}
use Rattle.header_grammar.proofs.Kept.{Kept, KeptItem, Holds, holds_all, TakesUnsigned, AfterUnsigned, after_all, nothing_after}
use Rattle.sdf_header.proofs.Choices.{either}

-- ---- what a token decides

-- the token of the list that decides a fault at its place
pub record Found (all : List Token) (k : FaultKind) (q : ℕ) : Type 0 where
  pub before : List Token
  pub token : Token
  pub after : List Token
  pub is : all ≡ before ++ token ∷ after
  pub stands : token.place ≡ q
  pub decides : Decides k (spelling before) token.lexeme (spelling after)

same_halt : (k k' : FaultKind) (p q : ℕ) → ◌≡◌ {A = Result State Halt} (halt k p) (halt k' q) → (k ≡ k') × (p ≡ q)
same_halt k k' p q e =
    let same = err_is (record { kind = k; place = p }) (record { kind = k'; place = q }) e in
    (ap (λ (x : Halt). x.kind) same, ap (λ (x : Halt). x.place) same)
  where
    err_is : (a b : Halt) → ◌≡◌ {A = Result State Halt} (Err a) (Err b) → a ≡ b
    err_is a b e = cc

moved : (all : List Token) (k k' : FaultKind) (p q : ℕ) → ◌≡◌ {A = Result State Halt} (halt k p) (halt k' q) → Found all k p → Found all k' q
moved all k k' p q e f =
    let s = same_halt k k' p q e in
    subst (λ x. Found all x q) s.0 (subst (λ x. Found all k x) s.1 f)

ok_halt : {B : Type 0} (s : State) (k : FaultKind) (p : ℕ) → ◌≡◌ {A = Result State Halt} (Ok s) (halt k p) → B
ok_halt s k p e = absurd cc

-- the token where the run halts, and what is known before it
pub record Place (all : List Token) (s : State) : Type 0 where
  pub before : List Token
  pub token : Token
  pub after : List Token
  pub is : all ≡ before ++ token ∷ after
  pub run : goes (Start nothing_given) before ≡ Ok s
  pub sits : Sits s (spelling before)
  pub held : Holds s before
  pub after_unsigned : AfterUnsigned s (spelling before)

abbrev int_token : Token
int_token = record { lexeme = word (codes "int"); place = 0 }

stops : (all : List Token) (s : State) (p : Place all s) (k : FaultKind) (q : ℕ) → step s p.token ≡ halt k q → (IsOfSense k → ⊥) → Stops (spelling p.before) p.token.lexeme
stops all s p k q e bad = (continues s (spelling p.before) p.sits, dead_end p.before p.token s k q p.run e bad)

abbrev lone_unsigned : Token
lone_unsigned = record { lexeme = word (codes "unsigned"); place = 0 }

-- behind this state `int` is a fault of the syntax, where it is one that `unsigned` leads to
abbrev NoInt : State → Type 0
NoInt s = TakesUnsigned s → (r : ℕ) × (step s int_token ≡ halt faults.Syntax r)

syntax : (all : List Token) (s : State) (p : Place all s) (k : FaultKind) (q : ℕ) → step s p.token ≡ halt k q → ((w : List ℕ) → p.token.lexeme ≡ word w → (r : ℕ) × (step s lone_unsigned ≡ halt faults.Syntax r)) → NoInt s → ◌≡◌ {A = Result State Halt} (halt faults.Syntax p.token.place) (halt k q) → Found all k q
syntax all s p k q e no_unsigned no_int same =
    moved all faults.Syntax k p.token.place q same (record {
      before = p.before;
      token = p.token;
      after = p.after;
      is = p.is;
      stands = refl;
      decides = (stops all s p faults.Syntax p.token.place (e ∙ sym same) (λ x. x), no_word_here, not_behind);
    })
  where
    b : Spelling
    b = spelling p.before

    no_word_here : IsTypeWord b p.token.lexeme → ⊥
    no_word_here t =
        let r = no_unsigned t.0 t.1 in
        dead_end p.before lone_unsigned s faults.Syntax r.0 p.run r.1 (λ x. x)
        (front_continues (b ++ word (codes "unsigned") ∷ []) (word (codes "int") ∷ []) (subst Continues (sym (append_assoc b (word (codes "unsigned") ∷ []) (word (codes "int") ∷ []))) t.2))

    not_behind : BehindUnsigned b → ⊥
    not_behind u =
        let r = no_int (p.after_unsigned u.0 u.1) in
        dead_end p.before int_token s faults.Syntax r.0 p.run r.1 (λ x. x)
        (subst (λ y. Continues (y ++ word (codes "int") ∷ [])) (sym u.1) (subst Continues (sym (append_assoc u.0 (word (codes "unsigned") ∷ []) (word (codes "int") ∷ []))) u.2))

takes_int : (all : List Token) (s s1 : State) (p : Place all s) → step s int_token ≡ Ok s1 → Continues (spelling p.before ++ word (codes "int") ∷ [])
takes_int all s s1 p e = continues s1 _ (sits_on s s1 (spelling p.before) (word (codes "int")) 0 e p.sits)

takes_type : (all : List Token) (s s1 s2 : State) (p : Place all s) → step s lone_unsigned ≡ Ok s1 → step s1 int_token ≡ Ok s2 → TypeWanted (spelling p.before)
takes_type all s s1 s2 p e f =
    subst Continues (append_assoc (spelling p.before) (word (codes "unsigned") ∷ []) (word (codes "int") ∷ []))
    (continues s2 _ (sits_on s1 s2 (spelling p.before ++ word (codes "unsigned") ∷ []) (word (codes "int")) 0 f (sits_on s s1 (spelling p.before) (word (codes "unsigned")) 0 e p.sits)))

wanted_not : {A : Type 0} (p : ℕ) (o : Option A) (f : A → Result State Halt) (k : FaultKind) (q : ℕ) → wanted p o f ≡ halt k q → ((o ≡ None) × (◌≡◌ {A = Result State Halt} (halt faults.Syntax p) (halt k q))) ⊎ ((a : A) × (o ≡ Some a) × (f a ≡ halt k q))
wanted_not p None f k q e = inl (refl, e)
wanted_not p (Some a) f k q e = inr (a, refl, e)

or_halt_not : {A : Type 0} (k' : FaultKind) (p : ℕ) (o : Option A) (f : A → Result State Halt) (k : FaultKind) (q : ℕ) → or_halt k' p o f ≡ halt k q → ((o ≡ None) × (◌≡◌ {A = Result State Halt} (halt k' p) (halt k q))) ⊎ ((a : A) × (o ≡ Some a) × (f a ≡ halt k q))
or_halt_not k' p None f k q e = inl (refl, e)
or_halt_not k' p (Some a) f k q e = inr (a, refl, e)

some_none : {A B : Type 0} (a : A) → ◌≡◌ {A = Option A} (Some a) None → B
some_none a e = absurd cc

-- a word is there, so this is not the case
no_word : {B : Type 0} (x : Option Lexeme) (w : List ℕ) → word_in x ≡ None → x ≡ word w → B
no_word x w none e = some_none w (sym (ap word_in e) ∙ none)

no_value : {B : Type 0} (x : Option Lexeme) (w : List ℕ) → option_and_then value_of x ≡ None → x ≡ word w → B
no_value x w none e = some_none values.Other (sym (ap (option_and_then value_of) e) ∙ none)

-- whole statements, and this part of one
behind : (h : Header) (b : Spelling) (part : Spelling → Spelling) (p : Before h b part) → StandsBehind b p.statements (part [])
behind h b part p = record { are = p.are; fit = p.fit; spelled = sym (append-nil b) ∙ p.spelled [] }

-- ---- a type that is none

no_type : (all : List Token) (s s1 s2 : State) (p : Place all s) (k : FaultKind) (q : ℕ) (w : List ℕ) → step s p.token ≡ halt k q → step s lone_unsigned ≡ Ok s1 → step s1 int_token ≡ Ok s2 → (TakesUnsigned s → ⊥) → p.token.lexeme ≡ word w → ◌≡◌ {A = Result State Halt} (halt faults.UnknownType p.token.place) (halt k q) → Found all k q
no_type all s s1 s2 p k q w e one two not_behind x same =
    moved all faults.UnknownType k p.token.place q same (record {
      before = p.before;
      token = p.token;
      after = p.after;
      is = p.is;
      stands = refl;
      decides = inl (stops all s p faults.UnknownType p.token.place (e ∙ sym same) (λ x. x), (w, x, takes_type all s s1 s2 p one two), λ u. not_behind (p.after_unsigned u.0 u.1));
    })

on_type_halts : (all : List Token) (s s1 s2 u : State) (typed : Kind → State) (p : Place all s) (k : FaultKind) (q : ℕ) (w : List ℕ) → step s p.token ≡ halt k q → step s lone_unsigned ≡ Ok s1 → step s1 int_token ≡ Ok s2 → (TakesUnsigned s → ⊥) → p.token.lexeme ≡ word w → on_type p.token.place typed u w ≡ halt k q → Found all k q
on_type_halts all s s1 s2 u typed p k q w e one two not_behind x at =
    elim (either (bytes_eq w (codes "unsigned")) (Ok u) (or_halt faults.UnknownType p.token.place (kind_named w) (λ kind. Ok (typed kind))) (halt k q) at) [
      | inl a ↦ ok_halt u k q a.1
      | inr b ↦
          elim (or_halt_not faults.UnknownType p.token.place (kind_named w) (λ kind. Ok (typed kind)) k q b.1) [
            | inl none ↦ no_type all s s1 s2 p k q w e one two not_behind x none.1
            | inr c ↦ ok_halt (typed c.0) k q c.2
          ]
    ]

-- `unsigned`, and no type with what is behind it
no_unsigned : (all : List Token) (s s1 : State) (typed : Kind → State) (p : Place all s) (place : ℕ) (k : FaultKind) (q : ℕ) → Kept p.before place (word (codes "unsigned")) [] → step s p.token ≡ halt k q → step s int_token ≡ Ok s1
    → or_halt faults.UnknownType place (option_and_then unsigned_type p.token.lexeme) (λ kind. Ok (typed kind)) ≡ halt k q → Found all k q
no_unsigned all s s1 typed p place k q kept e int at =
    elim (or_halt_not faults.UnknownType place (option_and_then unsigned_type p.token.lexeme) (λ kind. Ok (typed kind)) k q at) [
      | inr c ↦ ok_halt (typed c.0) k q c.2
      | inl none ↦
          (let front : spelling p.before ≡ spelling kept.before ++ kept.token.lexeme ∷ [] = ap spelling kept.is ∙ spelling-append kept.before (kept.token ∷ kept.after) ∙ ap (λ y. spelling kept.before ++ kept.token.lexeme ∷ y) kept.spelled in
          let stop : Stops (spelling kept.before ++ kept.token.lexeme ∷ []) p.token.lexeme = subst (λ y. Stops y p.token.lexeme) front (stops all s p faults.UnknownType place (e ∙ sym none.1) (λ x. x)) in
          let last : spelling p.before ≡ spelling kept.before ++ word (codes "unsigned") ∷ [] = front ∙ ap (λ y. spelling kept.before ++ y ∷ []) kept.lexeme in
          let wanted : TypeWanted (spelling kept.before) = subst Continues (append_assoc (spelling kept.before) (word (codes "unsigned") ∷ []) (word (codes "int") ∷ [])) (subst (λ y. Continues (y ++ word (codes "int") ∷ [])) last (takes_int all s s1 p int)) in
          moved all faults.UnknownType k place q none.1 (record {
            before = kept.before;
            token = kept.token;
            after = kept.after ++ p.token ∷ p.after;
            is = p.is ∙ ap (λ y. y ++ p.token ∷ p.after) kept.is ∙ append_assoc kept.before (kept.token ∷ kept.after) (p.token ∷ p.after);
            stands = kept.stands;
            decides = inr (kept.lexeme, wanted, p.token.lexeme, spelling p.after, spelling-append kept.after (p.token ∷ p.after) ∙ ap (λ y. y ++ p.token.lexeme ∷ spelling p.after) kept.spelled, stop);
          }))
    ]

-- ---- a name that was given

name_twice : (all : List Token) (s : State) (h : Header) (p : Place all s) (part : Spelling → Spelling) (b : Before h (spelling p.before) part) (k : FaultKind) (q : ℕ) (named : List ℕ → State) → IsLead (part []) → step s p.token ≡ halt k q
    → ((o : word_in p.token.lexeme ≡ None) → (w : List ℕ) → p.token.lexeme ≡ word w → (r : ℕ) × (step s lone_unsigned ≡ halt faults.Syntax r)) → NoInt s
    → wanted p.token.place (word_in p.token.lexeme) (on_name h p.token.place named) ≡ halt k q → Found all k q
name_twice all s h p part b k q named lead e no_unsigned no_int at =
    elim (wanted_not p.token.place (word_in p.token.lexeme) (on_name h p.token.place named) k q at) [
      | inl none ↦ syntax all s p k q e (no_unsigned none.0) no_int none.1
      | inr w ↦
          elim (either (is_some (h.given w.0)) (halt faults.NameTwice p.token.place) (Ok (named w.0)) (halt k q) w.2) [
            | inr f ↦ ok_halt (named w.0) k q f.1
            | inl t ↦ moved all faults.NameTwice k p.token.place q t.1 (record {
              before = p.before;
              token = p.token;
              after = p.after;
              is = p.is;
              stands = refl;
              decides = (w.0, word_is p.token.lexeme w.0 w.1, inl (record { statements = b.statements; part = part []; lead = lead; behind = behind h (spelling p.before) part b; given = ap (λ (x : Header). is_some (x.given w.0)) b.say ∙ t.0 }));
            })
          ]
    ]

-- ---- columns

column : (h : Header) (row : Row) (kind : Kind) (b : Spelling) (l : InLine h row kind b (λ rest. rest)) → ColumnStands b l.type row
column h row kind b l =
    let s = l.struct in
    record {
      statements = s.before.statements;
      lines = s.lines;
      earlier = l.earlier;
      behind = behind h b _ s.before;
      first = ap (λ (x : Header). is_some x.table) s.before.say ∙ s.none;
      is = l.is;
      lines_are = s.are;
      lines_fit = s.fit;
      items_are = l.are;
      items_fit = subst (λ r. ItemsFit l.type.kind r l.earlier) (sym s.say) l.fit;
      row_is = ap (λ r. and_items l.type.kind r l.earlier) s.say ∙ l.say;
    }

-- the name before is that of a column which is too wide
too_wide : (all : List Token) (s : State) (h : Header) (row : Row) (kind : Kind) (name : List ℕ) (place : ℕ) (more : Spelling) (p : Place all s) (k : FaultKind) (q n : ℕ) (kept : KeptItem h row kind p.before place name more)
    → nat_lt max_row_bytes (row.width + bytes_of kind * n) ≡ true → HasValues (more ++ p.token.lexeme ∷ spelling p.after) n → ◌≡◌ {A = Result State Halt} (halt faults.TooWide place) (halt k q) → Found all k q
too_wide all s h row kind name place more p k q n item wide values same =
    let kept = item.kept in
    let l = item.line in
    let behind_is : spelling (kept.after ++ p.token ∷ p.after) ≡ more ++ p.token.lexeme ∷ spelling p.after = spelling-append kept.after (p.token ∷ p.after) ∙ ap (λ y. y ++ p.token.lexeme ∷ spelling p.after) kept.spelled in
    moved all faults.TooWide k place q same (record {
      before = kept.before;
      token = kept.token;
      after = kept.after ++ p.token ∷ p.after;
      is = p.is ∙ ap (λ y. y ++ p.token ∷ p.after) kept.is ∙ append_assoc kept.before (kept.token ∷ kept.after) (p.token ∷ p.after);
      stands = kept.stands;
      decides = (
        name,
        kept.lexeme,
        record {
          type = l.type;
          row = row;
          column = column h row kind (spelling kept.before) l;
          new = item.new;
          wide = inr (n, subst (λ y. HasValues y n) (sym behind_is) values, ap (λ x. nat_lt max_row_bytes (row.width + bytes_of x * n)) l.kind_is ∙ wide);
        },
      );
    })

on_item_end_halts : (all : List Token) (s : State) (h : Header) (row : Row) (kind : Kind) (p : Place all s) (k : FaultKind) (q : ℕ) → step s p.token ≡ halt k q → ((r : ℕ) × (step s lone_unsigned ≡ halt faults.Syntax r)) → NoInt s → on_item_end h row kind p.token ≡ halt k q → Found all k q
on_item_end_halts all s h row kind p k q e no_unsigned no_int at =
    elim (either (has 59 p.token.lexeme) (Ok (Fields h row)) (cond (has 44 p.token.lexeme) (Ok (AtItem h row kind)) (halt faults.Syntax p.token.place)) (halt k q) at) [
      | inl a ↦ ok_halt (Fields h row) k q a.1
      | inr f ↦
          elim (either (has 44 p.token.lexeme) (Ok (AtItem h row kind)) (halt faults.Syntax p.token.place) (halt k q) f.1) [
            | inl a ↦ ok_halt (AtItem h row kind) k q a.1
            | inr g ↦ syntax all s p k q e (λ w x. no_unsigned) no_int g.1
          ]
    ]

wide_not : (row : Row) (kind : Kind) (name : List ℕ) (n : ℕ) (is_array : Bool) → widened row kind name n is_array ≡ None → nat_lt max_row_bytes (row.width + bytes_of kind * n) ≡ true
wide_not row kind name n is_array e =
    elim (either (nat_lt max_row_bytes (row.width + bytes_of kind * n)) None (Some _) None e) [
      | inl t ↦ t.0
      | inr f ↦ some_none _ f.1
    ]

no_bracket : (x : Option Lexeme) → has 91 x ≡ false → x ≡ sign 91 → ⊥
no_bracket x f e = (let t : has 91 x ≡ true = ap (has 91) e in absurd cc)

-- why the run halts
pub why : (all : List Token) (s : State) (p : Place all s) (k : FaultKind) (q : ℕ) → step s p.token ≡ halt k q → Found all k q
why all (Done h) p k q e = syntax all (Done h) p k q e (λ w x. (0, refl)) (λ c. absurd c) e
why all (Start h) p k q e =
    (let t = p.token in
    elim (either (ends t.lexeme) (Ok (Done h)) (wanted t.place (word_in t.lexeme) (on_statement h t.place)) (halt k q) e) [
      | inl a ↦ ok_halt (Done h) k q a.1
      | inr f ↦
          elim (wanted_not t.place (word_in t.lexeme) (on_statement h t.place) k q f.1) [
            | inl none ↦ syntax all (Start h) p k q e (λ w x. no_word t.lexeme w none.0 x) (λ c. absurd c) none.1
            | inr w ↦
                elim (either (bytes_eq w.0 (codes "parameter")) (Ok (ParamName h)) (cond (bytes_eq w.0 (codes "struct")) (cond (is_some h.table) (halt faults.SecondStruct t.place) (Ok (Wants 123 (Fields h no_fields)))) (on_type t.place (Typed h) (Unsigned h t.place) w.0)) (halt k q) w.2) [
                  | inl a ↦ ok_halt (ParamName h) k q a.1
                  | inr g ↦
                      elim (either (bytes_eq w.0 (codes "struct")) (cond (is_some h.table) (halt faults.SecondStruct t.place) (Ok (Wants 123 (Fields h no_fields)))) (on_type t.place (Typed h) (Unsigned h t.place) w.0) (halt k q) g.1) [
                        | inr o ↦ on_type_halts all (Start h) (Unsigned h 0) (Typed h (kinds.Whole wholes.U32)) (Unsigned h t.place) (Typed h) p k q w.0 e refl refl (λ c. c) (word_is t.lexeme w.0 w.1) o.1
                        | inl a ↦
                            elim (either (is_some h.table) (halt faults.SecondStruct t.place) (Ok (Wants 123 (Fields h no_fields))) (halt k q) a.1) [
                              | inr b ↦ ok_halt (Wants 123 (Fields h no_fields)) k q b.1
                              | inl b ↦ moved all faults.SecondStruct k t.place q b.1 (record {
                                before = p.before;
                                token = p.token;
                                after = p.after;
                                is = p.is;
                                stands = refl;
                                decides = (word_is t.lexeme w.0 w.1 ∙ ap (λ n. word n) ((bytes_eq-Decides w.0 (codes "struct")).0 a.0), p.sits.statements, behind h (spelling p.before) _ p.sits, ap (λ (x : Header). is_some x.table) p.sits.say ∙ b.0);
                              })
                            ]
                      ]
                ]
          ]
    ])
why all (Wants s after) p k q e =
    elim (either (has s p.token.lexeme) (Ok after) (halt faults.Syntax p.token.place) (halt k q) e) [
      | inl a ↦ ok_halt after k q a.1
      | inr f ↦ syntax all (Wants s after) p k q e (λ w x. (0, refl)) (λ c. (0, refl)) f.1
    ]
why all (ParamName h) p k q e = name_twice all (ParamName h) h p _ p.sits k q (λ w. Wants 61 (ParamValue h w)) (inl refl) e (λ o w x. no_word p.token.lexeme w o x) (λ c. absurd c) e
why all (ParamValue h name) p k q e =
    elim (wanted_not p.token.place (option_and_then value_of p.token.lexeme) (λ v. Ok (given h name v)) k q e) [
      | inl none ↦ syntax all (ParamValue h name) p k q e (λ w x. no_value p.token.lexeme w none.0 x) (λ c. absurd c) none.1
      | inr a ↦ ok_halt (given h name a.0) k q a.2
    ]
why all (Unsigned h place) p k q e = no_unsigned all (Unsigned h place) (Typed h (kinds.Whole wholes.U32)) (Typed h) p place k q p.held e refl e
why all (Typed h kind) p k q e = name_twice all (Typed h kind) h p _ p.sits.before k q (λ w. Named h kind w) (inr (p.sits.type, p.sits.is, refl)) e (λ o w x. no_word p.token.lexeme w o x) (λ c. absurd c) e
why all (Named h kind name) p k q e =
    elim (either (has 61 p.token.lexeme) (Ok (NumberFor h kind name)) (cond (has 91 p.token.lexeme && is_char kind) (Ok (TextSize h name)) (halt faults.Syntax p.token.place)) (halt k q) e) [
      | inl a ↦ ok_halt (NumberFor h kind name) k q a.1
      | inr f ↦
          elim (either (has 91 p.token.lexeme && is_char kind) (Ok (TextSize h name)) (halt faults.Syntax p.token.place) (halt k q) f.1) [
            | inl a ↦ ok_halt (TextSize h name) k q a.1
            | inr g ↦ syntax all (Named h kind name) p k q e (λ w x. (0, refl)) (λ c. (0, refl)) g.1
          ]
    ]
why all (NumberFor h kind name) p k q e =
    elim (wanted_not p.token.place (option_and_then (number_for kind) p.token.lexeme) (λ v. Ok (given h name v)) k q e) [
      | inl none ↦ syntax all (NumberFor h kind name) p k q e (λ w x. (0, refl)) (λ c. absurd c) none.1
      | inr a ↦ ok_halt (given h name a.0) k q a.2
    ]
why all (TextSize h name) p k q e =
    elim (either (has 93 p.token.lexeme) (Ok (Wants 61 (TextValue h name))) (wanted p.token.place (option_and_then size_of p.token.lexeme) (λ n. Ok (Wants 93 (Wants 61 (TextValue h name))))) (halt k q) e) [
      | inl a ↦ ok_halt (Wants 61 (TextValue h name)) k q a.1
      | inr f ↦
          elim (wanted_not p.token.place (option_and_then size_of p.token.lexeme) (λ n. Ok (Wants 93 (Wants 61 (TextValue h name)))) k q f.1) [
            | inl none ↦ syntax all (TextSize h name) p k q e (λ w x. (0, refl)) (λ c. absurd c) none.1
            | inr a ↦ ok_halt (Wants 93 (Wants 61 (TextValue h name))) k q a.2
          ]
    ]
why all (TextValue h name) p k q e =
    elim (wanted_not p.token.place (option_and_then text_in p.token.lexeme) (λ v. Ok (given h name values.Other)) k q e) [
      | inl none ↦ syntax all (TextValue h name) p k q e (λ w x. (0, refl)) (λ c. absurd c) none.1
      | inr a ↦ ok_halt (given h name values.Other) k q a.2
    ]
why all (Fields h row) p k q e =
    (let t = p.token in
    elim (either (has 125 t.lexeme) (Ok (Wants 91 (StructSize h row))) (wanted t.place (word_in t.lexeme) (on_type t.place (AtItem h row) (FieldUnsigned h row t.place))) (halt k q) e) [
      | inl a ↦ ok_halt (Wants 91 (StructSize h row)) k q a.1
      | inr f ↦
          elim (wanted_not t.place (word_in t.lexeme) (on_type t.place (AtItem h row) (FieldUnsigned h row t.place)) k q f.1) [
            | inl none ↦ syntax all (Fields h row) p k q e (λ w x. no_word t.lexeme w none.0 x) (λ c. absurd c) none.1
            | inr w ↦ on_type_halts all (Fields h row) (FieldUnsigned h row 0) (AtItem h row (kinds.Whole wholes.U32)) (FieldUnsigned h row t.place) (AtItem h row) p k q w.0 e refl refl (λ c. c) (word_is t.lexeme w.0 w.1) w.2
          ]
    ])
why all (FieldUnsigned h row place) p k q e = no_unsigned all (FieldUnsigned h row place) (AtItem h row (kinds.Whole wholes.U32)) (AtItem h row) p place k q p.held e refl e
why all (AtItem h row kind) p k q e =
    (let t = p.token in
    elim (wanted_not t.place (word_in t.lexeme) (on_item h row kind t.place) k q e) [
      | inl none ↦ syntax all (AtItem h row kind) p k q e (λ w x. no_word t.lexeme w none.0 x) (λ c. absurd c) none.1
      | inr w ↦
          elim (either (has_field w.0 row.fields) (halt faults.NameTwice t.place) (cond (length row.fields == max_columns) (halt faults.TooWide t.place) (Ok (ItemName h row kind w.0 t.place))) (halt k q) w.2) [
            | inl a ↦ moved all faults.NameTwice k t.place q a.1 (record {
              before = p.before;
              token = p.token;
              after = p.after;
              is = p.is;
              stands = refl;
              decides = (w.0, word_is t.lexeme w.0 w.1, inr (p.sits.type, row, column h row kind (spelling p.before) p.sits, a.0));
            })
            | inr f ↦
                elim (either (length row.fields == max_columns) (halt faults.TooWide t.place) (Ok (ItemName h row kind w.0 t.place)) (halt k q) f.1) [
                  | inl a ↦ moved all faults.TooWide k t.place q a.1 (record {
                    before = p.before;
                    token = p.token;
                    after = p.after;
                    is = p.is;
                    stands = refl;
                    decides = (w.0, word_is t.lexeme w.0 w.1, record { type = p.sits.type; row = row; column = column h row kind (spelling p.before) p.sits; new = f.0; wide = inl a.0 });
                  })
                  | inr g ↦ ok_halt (ItemName h row kind w.0 t.place) k q g.1
                ]
          ]
    ])
why all (ItemName h row kind name place) p k q e =
    (let t = p.token in
    elim (either (has 91 t.lexeme) (Ok (Length h row kind name place)) (or_halt faults.TooWide place (widened row kind name 1 false) (λ wider. on_item_end h wider kind t)) (halt k q) e) [
      | inl a ↦ ok_halt (Length h row kind name place) k q a.1
      | inr f ↦
          elim (or_halt_not faults.TooWide place (widened row kind name 1 false) (λ wider. on_item_end h wider kind t) k q f.1) [
            | inl none ↦ too_wide all (ItemName h row kind name place) h row kind name place [] p k q 1 p.held (wide_not row kind name 1 false none.0) (Plain t.lexeme (spelling p.after) (no_bracket t.lexeme f.0)) none.1
            | inr w ↦ on_item_end_halts all (ItemName h row kind name place) h w.0 kind p k q e (0, ap (λ o. or_halt faults.TooWide place o (λ wider. on_item_end h wider kind lone_unsigned)) w.1) (λ c. (0, ap (λ o. or_halt faults.TooWide place o (λ wider. on_item_end h wider kind int_token)) w.1)) w.2
          ]
    ])
why all (Length h row kind name place) p k q e =
    (let t = p.token in
    elim (wanted_not t.place (option_and_then length_of t.lexeme) (λ n. or_halt faults.TooWide place (widened row kind name n true) (λ wider. Ok (Wants 93 (ItemEnd h wider kind)))) k q e) [
      | inl none ↦ syntax all (Length h row kind name place) p k q e (λ w x. (0, refl)) (λ c. absurd c) none.1
      | inr n ↦
          elim (or_halt_not faults.TooWide place (widened row kind name n.0 true) (λ wider. Ok (Wants 93 (ItemEnd h wider kind))) k q n.2) [
            | inl none ↦
                (let l = token_is length_of t.lexeme n.0 n.1 in
                let len = length_is l.0 n.0 l.2 in
                too_wide all (Length h row kind name place) h row kind name place (sign 91 ∷ []) p k q n.0 p.held (wide_not row kind name n.0 true none.0) (subst (λ x. HasValues (sign 91 ∷ x ∷ spelling p.after) n.0) (sym (l.1 ∙ len.0)) (Array n.0 (spelling p.after) len.1)) none.1)
            | inr w ↦ ok_halt (Wants 93 (ItemEnd h w.0 kind)) k q w.2
          ]
    ])
why all (ItemEnd h row kind) p k q e = on_item_end_halts all (ItemEnd h row kind) h row kind p k q e (0, refl) (λ c. absurd c) e
why all (StructSize h row) p k q e =
    elim (either (has 93 p.token.lexeme) (Ok (closed h row None)) (wanted p.token.place (option_and_then size_of p.token.lexeme) (λ n. Ok (Wants 93 (closed h row (Some n))))) (halt k q) e) [
      | inl a ↦ ok_halt (closed h row None) k q a.1
      | inr f ↦
          elim (wanted_not p.token.place (option_and_then size_of p.token.lexeme) (λ n. Ok (Wants 93 (closed h row (Some n)))) k q f.1) [
            | inl none ↦ syntax all (StructSize h row) p k q e (λ w x. (0, refl)) (λ c. absurd c) none.1
            | inr a ↦ ok_halt (Wants 93 (closed h row (Some a.0))) k q a.2
          ]
    ]

-- each fault of a text is decided by a token at its place
pub fault_at : (text : List ℕ) (f : Fault) → header_in text ≡ Err f → FaultAt text f.kind (length text - f.left)
fault_at text f e =
    let h = halted (Start nothing_given) (tokens text) f.kind (length text - f.left) (header_goes (length text) text ∙ ap (onward (length text) done) e) in
    let p : Place (tokens text) h.state = record { before = h.before; token = h.token; after = h.after; is = h.is; run = h.run; sits = sits_all h.before (Start nothing_given) h.state [] h.run nothing_sits; held = holds_all h.before (Start nothing_given) h.state [] h.run nothing_sits tt; after_unsigned = after_all h.before (Start nothing_given) h.state [] h.run nothing_after } in
    let d = why (tokens text) h.state p f.kind (length text - f.left) h.halts in
    record { before = d.before; token = d.token; after = d.after; is = d.is; stands = d.stands; decides = d.decides }
