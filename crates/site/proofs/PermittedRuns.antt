-- No reply of a run has an error of type, of an attribute or of an extension function.
use Rattle.std.specs.Prelude.{ℕ, List, [], ◌∷◌, Option, Some, None, Ok, Err}
use Rattle.serde_json.specs.Data.{Data}
use Rattle.site_meaning.specs.authoriser.declared.answer.Answer.{Answer}
use Rattle.json_words.specs.Json.{json_of}
use Rattle.site_store.specs.schema.Schemas.{StatedSchema, IsSchemaOf}
use Rattle.site_store.specs.stamped_store.Store.{Store}
use Rattle.site.specs.Readings.{parsed}
use Rattle.site.specs.Steps.{Answers}
use Rattle.site.specs.SoundAnswers.{HasPermittedErrors, StoredAnswersAreSound}
use Rattle.site.specs.Inputs.{Input}
use Rattle.site.specs.Inputs as input
use Rattle.site.specs.declared.reply.Reply.{Reply}
use Rattle.site.specs.declared.reply.Reply.TheVariants as reply
use Rattle.site.specs.Permitted.{IsPermittedReply, ArePermittedReplies, RunsAreSound}
use Rattle.site.specs.Runs.{Step, Run}

module _ (law : StoredAnswersAreSound) (bytes : List ℕ) (schema : StatedSchema) (stated : IsSchemaOf bytes schema) where
  answer_right : (s : Store) (json : Option Data) (a : Answer) → Answers (parsed schema) s json (Ok a) → HasPermittedErrors a
  answer_right s None a h = absurd h.1
  answer_right s (Some d) a h = law bytes schema stated s d h.0 h.1 a h.2

  step_right : (n : List ℕ) (s : Store) (i : Input) (r : Reply) (t : Store) → Step schema n s i r t → IsPermittedReply r
  step_right n s (input.Authorize b) (reply.Answered (Ok a)) t h = answer_right s (json_of b) a h.0
  step_right n s (input.PutPolicy id text) (reply.Answered (Ok a)) t h = absurd h
  step_right n s (input.DeletePolicy id) (reply.Answered (Ok a)) t h = absurd h
  step_right n s (input.PutEntity b) (reply.Answered (Ok a)) t h = absurd h
  step_right n s (input.DeleteEntity u) (reply.Answered (Ok a)) t h = absurd h
  step_right n s (input.Take b) (reply.Answered (Ok a)) t h = absurd h
  step_right n s (input.GetPolicy id) (reply.Answered (Ok a)) t h = absurd h
  step_right n s input.State (reply.Answered (Ok a)) t h = absurd h
  step_right n s input.Summary (reply.Answered (Ok a)) t h = absurd h
  step_right n s (input.Delta b) (reply.Answered (Ok a)) t h = absurd h
  step_right n s i (reply.Answered (Err f)) t h = tt
  step_right n s i (reply.Put x) t h = tt
  step_right n s i (reply.Stamped x) t h = tt
  step_right n s i (reply.Taken x) t h = tt
  step_right n s i (reply.Found x) t h = tt
  step_right n s i (reply.Written x) t h = tt

  run_right : (n : List ℕ) (s : Store) (is : List Input) (rs : List Reply) (t : Store) → Run schema n s is rs t → ArePermittedReplies rs
  run_right n s [] [] t h = tt
  run_right n s [] (r ∷ rs) t h = absurd h
  run_right n s (i ∷ is) [] t h = absurd h
  run_right n s (i ∷ is) (r ∷ rs) t h = (step_right n s i r h.0 h.1, run_right n h.0 is rs t h.2)

pub runs_are_sound : StoredAnswersAreSound → RunsAreSound
runs_are_sound law bytes schema stated n s is rs t h = run_right law bytes schema stated n s is rs t h
