-- How many rows of one width are whole in so many bytes.
use Rattle.std.proofs.Common.{◌≡◌, ℕ, ◌+◌, ◌-◌, ◌*◌, ◌/◌, ◌%◌, ◌<◌, ◌≤◌, ap, ◌∙◌, arith, le_of_mul-le-mul_right}
use Rattle.std.proofs.lemmas.Nat.{div-add-mod', div-mul-add, mod_below, le-div}
use Rattle.std.proofs.Math.Nat.{div-mul-le_self, lt-div-mul-add, mul-le-mul_right}

-- the bytes behind the last whole row are fewer than a row has
pub part_short : (len w : ℕ) → 1 ≤ w → len - len / w * w < w
part_short len w some =
    let whole = div-add-mod' len w in
    let short = mod_below len w (omega arith) in
    omega arith

-- bytes that do not end the row change no number of rows
pub same_rows : (len t w : ℕ) → len - len / w * w + t < w → (len + t) / w ≡ len / w
same_rows len t w short =
    let whole = div-add-mod' len w in
    let sum : len + t ≡ len / w * w + (len % w + t) = omega arith in
    ap (λ (n : ℕ). n / w) sum ∙ div-mul-add (len / w) w (len % w + t) (omega arith)

-- the bytes that end the row make one row more
pub one_row_more : (len t w : ℕ) → 1 ≤ w → len - len / w * w + t ≡ w → (len + t) / w ≡ len / w + 1
one_row_more len t w some ends =
    let whole = div-add-mod' len w in
    let next : (len / w + 1) * w ≡ len / w * w + w = omega arith in
    let sum : len + t ≡ (len / w + 1) * w + 0 = omega arith in
    ap (λ (n : ℕ). n / w) sum ∙ div-mul-add (len / w + 1) w 0 (omega arith)

-- more bytes hold no fewer rows
pub more_rows : (len t w : ℕ) → 1 ≤ w → len / w ≤ (len + t) / w
more_rows len t w some =
    let below = div-mul-le_self len w in
    le-div (len / w) (len + t) w (omega arith) (omega arith)

-- the whole rows lie in the bytes
pub rows_lie : (len w : ℕ) → len / w * w ≤ len
rows_lie len w = div-mul-le_self len w

-- with n rows there, so many bytes are there
pub rows_there : (n len w : ℕ) → n ≤ len / w → n * w ≤ len
rows_there n len w h =
    let below = div-mul-le_self len w in
    let scaled : n * w ≤ len / w * w = mul-le-mul_right w h in
    omega arith

-- with fewer than n rows there, fewer bytes are there than n rows have
pub rows_lack : (n len w : ℕ) → 1 ≤ w → len / w < n → len < n * w
rows_lack n len w some h =
    let above = lt-div-mul-add {a = len} {b = w} (omega arith) in
    let scaled : (len / w + 1) * w ≤ n * w = mul-le-mul_right w (omega arith) in
    let next : (len / w + 1) * w ≡ len / w * w + w = omega arith in
    omega arith

-- rows that take no more bytes are no more rows
pub le_rows : (n k w : ℕ) → 1 ≤ w → k * w ≤ n * w → k ≤ n
le_rows n k w some h = le_of_mul-le-mul_right h (omega arith)
