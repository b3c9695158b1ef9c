-- Records of cells added up.
use Rattle.std.specs.Prelude.{ℕ, ◌≡◌, ◌+◌, List, ◌++◌}
use Rattle.hot_units.specs.Values.{BodyValue, CellValue}
use Rattle.hot_model.specs.Trees.{record_of}

-- a record with the numbers of another added, under its own key
abbrev pub joined : CellValue → CellValue → CellValue
joined a b = record {
  key = a.key;
  count = a.count + b.count;
  mass = a.mass + b.mass;
  sx = a.sx + b.sx;
  sy = a.sy + b.sy;
  sz = a.sz + b.sz;
  sxx = a.sxx + b.sxx;
  syy = a.syy + b.syy;
  szz = a.szz + b.szz;
  sxy = a.sxy + b.sxy;
  sxz = a.sxz + b.sxz;
  syz = a.syz + b.syz;
}

-- the records of two lists of bodies, added up, are the record of both lists together
abbrev pub RecordsJoin : Type 0
RecordsJoin = (c d : ℕ) (xs ys : List BodyValue) → joined (record_of c xs) (record_of d ys) ≡ record_of c (xs ++ ys)
