-- `readers::named` meets its contract: the name is placed, or passes a limit (FactorPaths).
use Rattle.std.proofs.Common.{arith, length, ℕ, refl, sym, ap, ◌∙◌, ◌-◌}
use Rattle.text.proofs.FaultNumbers.{fault_some}
use Rattle.text.specs.declared.tokens.Token.TheVariants.{Name}
use Rattle.text.specs.declared.tokens.Read.{Read}
use Rattle.parts.proofs.NameParts.{refused_by}
use Rattle.compiler.specs.Reading.{halted}
use Rattle.compiler.proofs.FactorPaths as factors
use Rattle.compiler.proofs.readers.named.Goals as goal

-- the token, by its parts
abbrev token : ℕ → ℕ → ℕ → Read
token m start used = record { token = Name m; start = start; used = used }

pub overflow_add-start : goal.overflow_add-start
overflow_add-start c =
    omega (arith, factors.name_fits c.args.s.now (token c.args.m c.args.start c.args.used) (sym c.requires) c.args.m refl, c.well_formed)

pub slice_bounds-place-end : goal.slice_bounds-place-end
slice_bounds-place-end c = factors.name_fits c.args.s.now (token c.args.m c.args.start c.args.used) (sym c.requires) c.args.m refl

pub overflow_sub-left : goal.overflow_sub-left
overflow_sub-left c = factors.used_fits c.args.s.now (token c.args.m c.args.start c.args.used) (sym c.requires)

pub overflow_sub-result : goal.overflow_sub-result
overflow_sub-result c = factors.start_fits c.args.s.now (token c.args.m c.args.start c.args.used) (sym c.requires)

pub returns-in-Ok : goal.returns-in-Ok
returns-in-Ok c = λ depth.
    factors.reads_name c.args.s.now (token c.args.m c.args.start c.args.used) (sym c.requires) depth _ _ c.args.m refl _ c.place.ensures _
    c.in-Ok.is c.starry.ensures

pub returns-in-Err : goal.returns-in-Err
returns-in-Err c = λ depth.
    let number = ap refused_by c.in-Err.is in
    factors.reads_limit c.args.s.now (token c.args.m c.args.start c.args.used) (sym c.requires) depth _ _ c.args.m refl _ c.place.ensures
    (λ z. fault_some c.in-Err.fault (sym number ∙ z))
    (ap (λ (n : ℕ). halted n (length c.args.s.now - c.args.start)) (sym number))
