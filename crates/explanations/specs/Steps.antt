-- Defines the steps of the paths to parts of JSON values.
-- Source: RFC 6901, sections 3 and 4: a member is named by its key, an item by its index.
use Rattle.std.specs.Prelude.{ℕ, List, map}
use Rattle.explanations.specs.declared.steps.Step as code
use Rattle.explanations.specs.declared.steps.Step.TheVariants as code_step
use Rattle.explanations.specs.declared.part_faults.PartFault.{PartFault}

-- A `Step` leads from a JSON value to one of its parts: `Key key` to the member of an object that has this key, and
-- `Index i` to the item of an array at this index, counted from 0.
pub data Step : Type 0 where
  Key : List ℕ → Step
  Index : ℕ → Step

-- `step_view s` is the step that the code's value `s` represents; `steps_view ss` are those of `ss`.
abbrev pub step_view : code.Step → Step
step_view (code_step.Key key) = Key key.now
step_view (code_step.Index i) = Index i

abbrev pub steps_view : List code.Step → List Step
steps_view ss = map step_view ss

-- `path_in x` is the path that leads to the part that the error `x` is about.
abbrev pub path_in : PartFault → List Step
path_in x = steps_view x.path.items
