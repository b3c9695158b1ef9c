use Rattle.std.proofs.Common.{◌≡◌, ◌+◌, ◌-◌, ◌/◌, ◌^◌, min, nat_lt, ◌++◌, [], length, take, List, ℕ, true, false, sym, ap, ◌∙◌, refl, arith, append-nil}
use Rattle.std.proofs.lemmas.List.{take_all, length-take}
use Rattle.std.proofs.lemmas.Bool.{le-ltb}
use Rattle.std.proofs.Math.Nat.{min-eq_left}
use Rattle.sdf_rows.specs.Rows.{rows_from, row_of, row_from, row_number}
use Rattle.sdf_rows.specs.Reading.{RowsValue, reader_from, part_behind, wanted}
use Rattle.sdf_rows.proofs.Steps.{full_step, full_rows, kept_step, kept_rows, ended_step, ended_rows, ended_bytes, held_part, given_number, number_from, own_layout}
use Rattle.sdf_rows.proofs.reader.Rows.feed.Goals as goal

-- where all stated rows were given, the reader is behind all bytes of the piece
pub returns-then-is_full-clause-after : goal.returns-then-is_full-clause-after
returns-then-is_full-clause-after c bytes is =
    let full = sym (c.is_full.ensures bytes is) ∙ c.if-is_full.true in
    let width = ap (λ (v : RowsValue). v.layout.width) c.self.view_is in
    own_layout _ c.args.self.now.layout c.args.self.now.first (bytes ++ c.args.piece.now)
    (ap (λ (v : RowsValue). record v { beyond = true }) (c.self.view_is ∙ is)
    ∙ full_step c.args.self.now.layout c.args.self.now.first bytes c.args.piece.now (omega (arith, width, c.self.invariant.0.some_bytes)) c.requires.some full)

-- and the piece gives no row
pub returns-then-is_full-clause-rows : goal.returns-then-is_full-clause-rows
returns-then-is_full-clause-rows c bytes is =
    let full = sym (c.is_full.ensures bytes is) ∙ c.if-is_full.true in
    let width = ap (λ (v : RowsValue). v.layout.width) c.self.view_is in
    full_rows c.args.self.now.layout c.args.self.now.first bytes c.args.piece.now (omega (arith, width, c.self.invariant.0.some_bytes)) full
    ∙ sym (append-nil (rows_from c.args.self.now.layout c.args.self.now.first bytes))

-- where the row goes on, the reader is behind all bytes of the piece
pub returns-then-piece-wanted-clause-after : goal.returns-then-piece-wanted-clause-after
returns-then-piece-wanted-clause-after c bytes is =
    let lacks = sym (c.is_full.ensures bytes is) ∙ c.if-is_full.false in
    let held = ap (λ (v : RowsValue). v.held) is ∙ held_part c.args.self.now.layout c.args.self.now.first bytes lacks in
    let length_held = ap (λ (xs : List ℕ). length xs) held in
    own_layout c.keep.new.self c.args.self.now.layout c.args.self.now.first (bytes ++ take (length c.args.piece.now) c.args.piece.now)
    (c.keep.ensures
    ∙ ap (λ (v : RowsValue). record v { held = v.held ++ c.args.piece.now }) is
    ∙ kept_step c.args.self.now.layout c.args.self.now.first bytes c.args.piece.now lacks (omega (arith, c.wanted-wanted.ensures, c.if-piece-wanted.true, length_held))
    ∙ ap (λ (t : List ℕ). reader_from c.args.self.now.layout c.args.self.now.first (bytes ++ t)) (sym (take_all (length c.args.piece.now) c.args.piece.now (omega arith))))

-- and the piece gives no row
pub returns-then-piece-wanted-clause-rows : goal.returns-then-piece-wanted-clause-rows
returns-then-piece-wanted-clause-rows c bytes is =
    let lacks = sym (c.is_full.ensures bytes is) ∙ c.if-is_full.false in
    let held = ap (λ (v : RowsValue). v.held) is ∙ held_part c.args.self.now.layout c.args.self.now.first bytes lacks in
    let length_held = ap (λ (xs : List ℕ). length xs) held in
    ap (λ (t : List ℕ). rows_from c.args.self.now.layout c.args.self.now.first (bytes ++ t)) (take_all (length c.args.piece.now) c.args.piece.now (omega arith))
    ∙ kept_rows c.args.self.now.layout c.args.self.now.first bytes c.args.piece.now (omega (arith, c.wanted-wanted.ensures, c.if-piece-wanted.true, length_held))
    ∙ sym (append-nil (rows_from c.args.self.now.layout c.args.self.now.first bytes))

-- where the row ends in the piece, the reader is behind its last byte
pub returns-clause-after : goal.returns-clause-after
returns-clause-after c bytes is =
    let seen = ap (λ (v : RowsValue). v.layout.width) c.self.view_is in
    let lacks = sym (c.is_full.ensures bytes is) ∙ c.if-is_full.false in
    let held = ap (λ (v : RowsValue). v.held) is ∙ held_part c.args.self.now.layout c.args.self.now.first bytes lacks in
    let length_held = ap (λ (xs : List ℕ). length xs) held in
    let taken : length (take c.wanted-wanted.result c.args.piece.now) ≡ c.wanted-wanted.result = length-take c.wanted-wanted.result c.args.piece.now ∙ min-eq_left (omega (arith, c.if-piece-wanted.false)) in
    own_layout c.row_with-row.new.self c.args.self.now.layout c.args.self.now.first (bytes ++ take c.wanted-wanted.result c.args.piece.now)
    (c.row_with-row.ensures.after
    ∙ ap (λ (v : RowsValue). record v { given = min (v.given + 1) (2 ^ 64 - 1); held = [] }) is
    ∙ ended_step c.args.self.now.layout c.args.self.now.first bytes (take c.wanted-wanted.result c.args.piece.now) (omega (arith, seen, c.self.invariant.0.some_bytes)) lacks (omega (arith, c.wanted-wanted.ensures, length_held, taken)))

-- and the rows are those before with this one
pub returns-clause-rows : goal.returns-clause-rows
returns-clause-rows c bytes is =
    let seen = ap (λ (v : RowsValue). v.layout.width) c.self.view_is in
    let lacks = sym (c.is_full.ensures bytes is) ∙ c.if-is_full.false in
    let held = ap (λ (v : RowsValue). v.held) is ∙ held_part c.args.self.now.layout c.args.self.now.first bytes lacks in
    let given = ap (λ (v : RowsValue). v.given) is ∙ given_number c.args.self.now.layout c.args.self.now.first bytes lacks in
    let number : row_number (c.args.self.now.first + c.args.self.now.given) ≡ row_number (c.args.self.now.first + length bytes / c.args.self.now.layout.width) = rw given (number_from c.args.self.now.first (length bytes / c.args.self.now.layout.width)) in
    let length_held = ap (λ (xs : List ℕ). length xs) held in
    let taken : length (take c.wanted-wanted.result c.args.piece.now) ≡ c.wanted-wanted.result = length-take c.wanted-wanted.result c.args.piece.now ∙ min-eq_left (omega (arith, c.if-piece-wanted.false)) in
    let row : c.row_with-row.result ≡ row_of c.args.self.now.layout (row_number (c.args.self.now.first + length bytes / c.args.self.now.layout.width)) (part_behind c.args.self.now.layout bytes ++ take c.wanted-wanted.result c.args.piece.now) =
    c.row_with-row.ensures.value ∙ rw (number, held) refl in
    rw row (ended_rows c.args.self.now.layout c.args.self.now.first bytes (take c.wanted-wanted.result c.args.piece.now) (omega (arith, seen, c.self.invariant.0.some_bytes)) lacks (omega (arith, c.wanted-wanted.ensures, length_held, taken)))

-- the answer is that row, and the bytes taken are those that it wanted
pub returns-clause-answer : goal.returns-clause-answer
returns-clause-answer c bytes is =
    let lacks = sym (c.is_full.ensures bytes is) ∙ c.if-is_full.false in
    let held = ap (λ (v : RowsValue). v.held) is ∙ held_part c.args.self.now.layout c.args.self.now.first bytes lacks in
    let given = ap (λ (v : RowsValue). v.given) is ∙ given_number c.args.self.now.layout c.args.self.now.first bytes lacks in
    let number : row_number (c.args.self.now.first + c.args.self.now.given) ≡ row_number (c.args.self.now.first + length bytes / c.args.self.now.layout.width) = rw given (number_from c.args.self.now.first (length bytes / c.args.self.now.layout.width)) in
    let length_held = ap (λ (xs : List ℕ). length xs) held in
    let width = c.wanted-wanted.ensures in
    let wants : wanted c.args.self.now.layout bytes ≡ c.wanted-wanted.result = omega (arith, width, length_held) in
    let full : nat_lt (length c.args.piece.now) c.wanted-wanted.result ≡ false = le-ltb (length c.args.piece.now) c.wanted-wanted.result (omega (arith, c.if-piece-wanted.false)) in
    let row : c.row_with-row.result ≡ row_from c.args.self.now.layout c.args.self.now.first (bytes ++ c.args.piece.now) (length bytes / c.args.self.now.layout.width) =
    c.row_with-row.ensures.value ∙ rw (number, held, ended_bytes c.args.self.now.layout bytes c.args.piece.now c.wanted-wanted.result (omega (arith, width, length_held))) refl in
    rw (row, lacks, wants, full) refl
