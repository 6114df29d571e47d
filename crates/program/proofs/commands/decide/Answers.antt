use Rattle.std.proofs.Common.{ℕ, List, Option, Bor, IfOk, IfErr, option_map, sym, subst}
use Rattle.plain.specs.AllocationErrors.{OrNoMemory}
use Rattle.program_drills.specs.answer_lines.Refusals.{no_memory}
use Rattle.program.specs.Runs.{IsDecided, IsNotDecided}
use Rattle.program.proofs.commands.decide.Goals as goal

pub returns-in-Some-clause-decided : goal.returns-in-Some-clause-decided
returns-in-Some-clause-decided c =
    subst (λ (schema : Option (Bor (List ℕ))). IfOk c.decide_under.result
    (λ line. IsDecided (option_map (λ s. s.now) schema) c.args.policies.now c.args.entities.now c.args.request.now line.items))
    (sym c.in-Some.is) c.decide_under.ensures.decided

pub returns-in-Some-clause-refused : goal.returns-in-Some-clause-refused
returns-in-Some-clause-refused c =
    subst (λ (schema : Option (Bor (List ℕ))). IfErr c.decide_under.result (OrNoMemory no_memory
    (IsNotDecided (option_map (λ s. s.now) schema) c.args.policies.now c.args.entities.now c.args.request.now)))
    (sym c.in-Some.is) c.decide_under.ensures.refused

pub returns-in-None-clause-decided : goal.returns-in-None-clause-decided
returns-in-None-clause-decided c =
    subst (λ (schema : Option (Bor (List ℕ))). IfOk c.decide_texts.result
    (λ line. IsDecided (option_map (λ s. s.now) schema) c.args.policies.now c.args.entities.now c.args.request.now line.items))
    (sym c.in-None.is) c.decide_texts.ensures.decided

pub returns-in-None-clause-refused : goal.returns-in-None-clause-refused
returns-in-None-clause-refused c =
    subst (λ (schema : Option (Bor (List ℕ))). IfErr c.decide_texts.result (OrNoMemory no_memory
    (IsNotDecided (option_map (λ s. s.now) schema) c.args.policies.now c.args.entities.now c.args.request.now)))
    (sym c.in-None.is) c.decide_texts.ensures.refused
