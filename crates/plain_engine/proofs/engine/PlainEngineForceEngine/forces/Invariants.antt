use Rattle.std.proofs.Common.{◌≡◌, take, map}
use Rattle.hot_units.specs.Bodies.{mass_of}
use Rattle.hot_model.specs.Trees.{force}
use Rattle.hot_model.specs.Forces.{whole}
use Rattle.plain_engine.proofs.engine.PlainEngineForceEngine.forces.Given as goal

-- the answers so far are those for the first bodies
abbrev pub invariant-loop-b : goal.invariant-loop-b
invariant-loop-b l = l.answers.items ≡ map (λ b. whole (mass_of l.bodies) (force l.fn.self l.bodies b)) (take l.b-index l.bodies)
