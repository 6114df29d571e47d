use Rattle.std.proofs.Common.{◌≡◌, ◌+◌, ◌++◌, ◌∷◌, [], sym, ap, ◌∙◌, subst, List, length, map, take, get_or, arith, length-append}
use Rattle.std.proofs.Math.Seq.{take-length}
use Rattle.std.proofs.lemmas.List.{take_more, map-append}
use Rattle.site_store.specs.schema.SchemaEntries.{SchemaEntries}
use Rattle.site_store.specs.schema.Views.{schema_view, IsStated}
use Rattle.site.specs.SiteViews.{schema_of, store_in}
use Rattle.site.specs.declared.input.Input as code
use Rattle.site.specs.declared.input.Input.TheVariants as borrowed
use Rattle.site.specs.Inputs.{Input, input_of}
use Rattle.site.specs.declared.reply.Reply.{Reply}
use Rattle.site.specs.Runs.{Run, Step}
use Rattle.site.proofs.RunLemmas.{AreStores, run_took, run_push, same_step}
use Rattle.site.proofs.site.Site.run.Goals as goal

pub loop-input-preserved : goal.loop-input-preserved
loop-input-preserved c =
    let i = c.loop-input.invariant in
    let inputs = c.args.inputs.now in
    let a = schema_of c.args.self.now in
    let n = c.args.self.now.name in
    let s = store_in c.args.self.now in
    let m = store_in c.loop-input.self in
    let t = store_in c.answer-reply.new.self in
    let replies = c.loop-input.replies.items in
    let reply = c.answer-reply.result in
    let items = c.in_default.ensures.items in
    let none : code.Input = borrowed.PutPolicy (record { ref_ptr = (0, 0); now = [] }) (record { ref_ptr = (0, 0); now = [] }) in
    let item = get_or inputs c.loop-input.input-index none in
    let before = take c.loop-input.input-index inputs in
    let step : Step a n m (input_of item) reply t = same_step (schema_of c.loop-input.self) a c.loop-input.self.name n m
    (input_of item) reply t (ap schema_view i.same.0) i.same.1 c.answer-reply.ensures.step in
    let grown = run_push a n s (map input_of before) replies m (input_of item) reply t i.run step in
    let first : map input_of (take (c.loop-input.input-index + 1) inputs) ≡ map input_of before ++ input_of item ∷ [] =
    ap (λ (xs : List code.Input). map input_of xs) (take_more inputs c.loop-input.input-index none (omega arith))
    ∙ map-append input_of before (item ∷ []) in
    record {
      room = omega arith;
      count = omega (arith, length-append replies (reply ∷ []), ap length items);
      same = (c.answer-reply.ensures.same.0 ∙ i.same.0, c.answer-reply.ensures.same.1 ∙ i.same.1);
      run = subst (λ (is : List Input). Run a n s is c.push.new.self.items t) (sym first)
          (subst (λ (rs : List Reply). Run a n s (map input_of before ++ input_of item ∷ []) rs t) (sym items) grown);
    }

pub returns-clause-store : goal.returns-clause-store
returns-clause-store c =
    let i = c.loop-input.invariant in
    let inputs = c.args.inputs.now in
    let a = schema_of c.args.self.now in
    let n = c.args.self.now.name in
    let s = store_in c.args.self.now in
    let law : AreStores = record {
      own = c.updates_have_one_store.ensures.own;
      grouped = c.updates_have_one_store.ensures.grouped;
    } in
    let all : c.loop-input.input-index ≡ length inputs = omega arith in
    run_took law a n s (map input_of inputs) c.loop-input.replies.items (store_in c.loop-input.self)
    (subst (λ (xs : List code.Input). Run a n s (map input_of xs) c.loop-input.replies.items (store_in c.loop-input.self))
    (ap (λ k. take k inputs) all ∙ take-length inputs) i.run)

pub returns-clause-right : goal.returns-clause-right
returns-clause-right c =
    let i = c.loop-input.invariant in
    let inputs = c.args.inputs.now in
    let a = schema_of c.args.self.now in
    let n = c.args.self.now.name in
    let s = store_in c.args.self.now in
    let all : c.loop-input.input-index ≡ length inputs = omega arith in
    let is = subst (λ (x : SchemaEntries). IsStated x) c.schema.ensures c.is_stated.ensures in
    c.runs_are_sound.ensures is.0 a is.1 n s (map input_of inputs) c.loop-input.replies.items (store_in c.loop-input.self)
    (subst (λ (xs : List code.Input). Run a n s (map input_of xs) c.loop-input.replies.items (store_in c.loop-input.self))
    (ap (λ k. take k inputs) all ∙ take-length inputs) i.run)
