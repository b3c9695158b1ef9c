-- Two bodies, on one rank and on two, and five at one place on three.
use Rattle.std.proofs.Common.{ℕ, zero, suc, ◌<◌, [], ◌∷◌, refl, arith, Some, None}
use Rattle.std.proofs.lemmas.List.Elements.{All-nil, All-cons}
use Rattle.hot_units.specs.Numbers.{greatest, least}
use Rattle.hot_units.specs.Keys.{key_to}
use Rattle.hot_units.specs.Order.{before, IsInOrder}
use Rattle.hot_units.specs.Bodies.{RowsCount, IsBody}
use Rattle.rank_model.specs.World.{IsGood}
use Rattle.defer_walk.specs.Listing.{IsListing}
use Rattle.defer_walk.proofs.Listings.{good_of}
use Rattle.rank_core.specs.Standing.{IsHere}
use Rattle.rank_tests.specs.Worlds.{near, far, one, two, at_point, crowd, five}

near_first : IsInOrder (near ∷ far ∷ [])
unfolding before key_to
near_first zero d l h = refl
near_first (suc k) d l h = absurd (omega (arith, h))

listed : IsListing (near ∷ far ∷ [])
listed = record {
  sound = All-cons IsBody near (far ∷ []) (record { x_in = omega arith; y_in = omega arith; z_in = omega arith; weighs = omega arith; light = omega arith }) (All-cons IsBody far [] (record { x_in = omega arith; y_in = omega arith; z_in = omega arith; weighs = omega arith; light = omega arith }) (All-nil IsBody));
  in_order = near_first;
  few = omega arith;
  light = omega arith;
  counted = counted;
}
  where
    counted : RowsCount (near ∷ far ∷ [])
    counted zero d h = refl
    counted (suc zero) d h = refl
    counted (suc (suc i)) d h = absurd (omega (arith, h))

-- both bodies on one rank
pub here_alone : IsHere one 0 1 (near ∷ far ∷ []) None None 8
unfolding key_to greatest least
here_alone = record { good = good_of (record { bodies = near ∷ far ∷ []; cuts = []; leaf = 8; me = 0 }) listed; bodies_are = refl; ranks_are = refl; leaf_is = refl; left_is = refl; right_is = refl }

-- the first of two ranks
pub here_first : IsHere two 0 2 (near ∷ []) None (Some 9223372036854776064) 8
unfolding key_to greatest least
here_first = record { good = good_of (record { bodies = near ∷ far ∷ []; cuts = 9223372036854776064 ∷ []; leaf = 8; me = 0 }) listed; bodies_are = refl; ranks_are = refl; leaf_is = refl; left_is = refl; right_is = refl }

-- the second of two ranks
pub here_second : IsHere two 1 2 (far ∷ []) (Some 9223372036854775808) None 8
unfolding key_to greatest least
here_second = record { good = good_of (record { bodies = near ∷ far ∷ []; cuts = 9223372036854776064 ∷ []; leaf = 8; me = 0 }) listed; bodies_are = refl; ranks_are = refl; leaf_is = refl; left_is = refl; right_is = refl }

-- a body of the crowd
point_is : (row : ℕ) → IsBody (at_point row)
point_is row = record { x_in = omega arith; y_in = omega arith; z_in = omega arith; weighs = omega arith; light = omega arith }

crowd_in_order : IsInOrder crowd
unfolding before key_to
crowd_in_order zero d l h = refl
crowd_in_order (suc zero) d l h = refl
crowd_in_order (suc (suc zero)) d l h = refl
crowd_in_order (suc (suc (suc zero))) d l h = refl
crowd_in_order (suc (suc (suc (suc k)))) d l h = absurd (omega (arith, h))

crowd_listed : IsListing crowd
crowd_listed = record {
  sound =
      All-cons IsBody (at_point 0) (at_point 1 ∷ at_point 2 ∷ at_point 3 ∷ at_point 4 ∷ []) (point_is 0)
      (All-cons IsBody (at_point 1) (at_point 2 ∷ at_point 3 ∷ at_point 4 ∷ []) (point_is 1)
      (All-cons IsBody (at_point 2) (at_point 3 ∷ at_point 4 ∷ []) (point_is 2)
      (All-cons IsBody (at_point 3) (at_point 4 ∷ []) (point_is 3)
      (All-cons IsBody (at_point 4) [] (point_is 4) (All-nil IsBody)))));
  in_order = crowd_in_order;
  few = omega arith;
  light = omega arith;
  counted = counted;
}
  where
    counted : RowsCount crowd
    counted zero d h = refl
    counted (suc zero) d h = refl
    counted (suc (suc zero)) d h = refl
    counted (suc (suc (suc zero))) d h = refl
    counted (suc (suc (suc (suc zero)))) d h = refl
    counted (suc (suc (suc (suc (suc i))))) d h = absurd (omega (arith, h))

pub five_good : IsGood five
five_good = good_of (record { bodies = crowd; cuts = 18446744073709551615 ∷ 18446744073709551615 ∷ []; leaf = 8; me = 0 }) crowd_listed

-- the first of three ranks, with the crowd
pub here_crowd : IsHere five 0 3 crowd None None 8
unfolding key_to greatest least
here_crowd = record { good = five_good; bodies_are = refl; ranks_are = refl; leaf_is = refl; left_is = refl; right_is = refl }

-- each of the others, without bodies
pub here_empty : (q : ℕ) → 0 < q → q < 3 → IsHere five q 3 [] (Some 9223372036854776263) None 8
unfolding key_to greatest least
here_empty zero a b = absurd (omega arith)
here_empty (suc zero) a b = record { good = five_good; bodies_are = refl; ranks_are = refl; leaf_is = refl; left_is = refl; right_is = refl }
here_empty (suc (suc zero)) a b = record { good = five_good; bodies_are = refl; ranks_are = refl; leaf_is = refl; left_is = refl; right_is = refl }
here_empty (suc (suc (suc q))) a b = absurd (omega arith)
