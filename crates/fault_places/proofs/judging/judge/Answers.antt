use Rattle.std.proofs.Common.{subst, refl}
use Rattle.type_checker.specs.Views.{static_view, typing_environment}
use Rattle.type_checker.specs.type_capabilities.CapabilityList.{capabilities}
use Rattle.typing.specs.Typing.{Types}
use Rattle.typing.specs.Faults.{Faults}
use Rattle.fault_places.proofs.judging.judge.Goals as goal

pub returns-in_ok-add_to-in-Ok : goal.returns-in_ok-add_to-in-Ok
returns-in_ok-add_to-in-Ok c =
    let E = typing_environment c.args.env in
    let x = c.args.expr.now in
    record {
      kind = c.in-Ok.typed.kind;
      gained = c.in-Ok.typed.gains.items;
      typed = subst (λ gs. Types E (capabilities gs) x (static_view c.in-Ok.typed.kind) (capabilities c.in-Ok.typed.gains.items)) c.as_slice.ensures.value
          c.in-Ok.ensures.typed;
      extended = c.in_ok-add_to-in-Ok.ensures.1;
      appended = c.in_ok-add_to-in-Ok.ensures.0;
      boolean = c.as_boolean-truth.ensures;
    }

pub returns-in_default : goal.returns-in_default
returns-in_default c =
    let E = typing_environment c.args.env in (
      record {
        error = c.in-Err.fault;
        has_error = subst (λ gs. Faults E (capabilities gs) c.args.expr.now c.in-Err.fault) c.as_slice.ensures.value
            (c.in-Err.ensures.faulty c.in_default.not-NoMemory);
        unchanged = refl;
      },
      refl,
    )
