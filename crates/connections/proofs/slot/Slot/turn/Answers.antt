use Rattle.std.proofs.Common.{◌≡◌, ◌≤◌, ◌<◌, ◌+◌, ◌-◌, ◌++◌, ℕ, Bool, List, [], length, take, drop, false, refl, sym, ap, ◌∙◌, subst, inl, inr, append-nil, arith}
use Rattle.std.proofs.lemmas.List.{drop-drop, length-take-le, take-append-drop, take_rest}
use Rattle.connections.specs.Connections.{Connection, kept}
use Rattle.connections.specs.Framing.{StaysUnfinished}
use Rattle.connections.specs.declared.slot.Stage.{Stage}
use Rattle.connections.specs.declared.slot.Stage.TheVariants as Stages
use Rattle.connections.proofs.slot.Slot.turn.Goals as goal

-- bytes that stay unfinished below a number, and are fewer, are unfinished
unfinished_now : (is_unfinished : List ℕ → Type 0) (bytes : List ℕ) (needed : ℕ) → StaysUnfinished is_unfinished bytes needed
    → length bytes < needed → is_unfinished bytes
unfinished_now is_unfinished bytes needed stays less =
    subst is_unfinished (append-nil bytes) (stays [] (subst (λ (t : List ℕ). length t < needed) (sym (append-nil bytes)) less))

-- a connection after an answer, where the reply has `n` bytes
abbrev after : Bool → List ℕ → List ℕ → List ℕ → ℕ → Connection → Connection
after closes input reply line n a = record a {
  closing = closes;
  stage = Stages.Made;
  input = input;
  output = reply;
  line = line;
  needed = 0;
  began = a.since;
  reply_size = n;
  offered = false;
  asked = false;
}

pub returns-in-Answered-clause-answered : goal.returns-in-Answered-clause-answered
returns-in-Answered-clause-answered g c _ =
    let items : List ℕ = c.self.inside.input.items in
    let done = c.self.inside.done in
    let size = c.in-Answered.size in
    let rest : take (length c.deref.result.now - done) (drop done c.deref.result.now) ≡ drop done items =
    take_rest c.deref.result.now done ∙ ap (drop done) c.deref.ensures.value in
    let some : size ≤ length (drop done items) = subst (λ (t : List ℕ). size ≤ length t) rest c.in-Answered.ensures.answer.1 in
    let whole : drop done items ≡ take size (drop done items) ++ drop (done + size) items =
    sym (take-append-drop size (drop done items)) ∙ ap (λ (t : List ℕ). take size (drop done items) ++ t) (drop-drop size done items) in
    let reply_size : c.len-self-inside.result ≡ length c.answer.new.out.items =
    omega (arith, c.len-self-inside.ensures, c.answer.new.out.ok.0) in
    let long : length (take size (drop done items)) ≡ size = length-take-le size (drop done items) some in
    record {
      request = take size (drop done items);
      closes = c.in-Answered.closes;
      reply = c.answer.new.out.items;
      line = c.answer.new.line.items;
      answered = (
        subst (λ (t : List ℕ). g.S.Service.answers c.args.service.now (take size t) c.in-Answered.closes c.answer.new.out.items c.answer.new.self) rest c.in-Answered.ensures.answer.2,
        subst (λ (t : List ℕ). g.S.Service.lines (take size t) c.in-Answered.closes c.answer.new.out.items c.answer.new.line.items) rest c.in-Answered.ensures.answer.3,
      );
      changed = (
        c.if-not-may_answer.ensures.may refl,
        omega (arith, long, c.in-Answered.ensures.answer.0),
        sym (ap (λ (a : Connection). a.input) c.self.view_is) ∙ whole,
        ap (after c.in-Answered.closes (drop (done + size) items) c.answer.new.out.items c.answer.new.line.items c.len-self-inside.result) c.self.view_is
            ∙ ap (λ (n : ℕ). after c.in-Answered.closes (drop (done + size) items) c.answer.new.out.items c.answer.new.line.items n c.args.self.now)
            reply_size,
      );
    }

pub returns-then-not-may_answer-clause-idle : goal.returns-then-not-may_answer-clause-idle
returns-then-not-may_answer-clause-idle g c _ = (
  record {
    none = λ may. absurd (c.if-not-may_answer.ensures.may_not refl may);
    change = inl (refl, λ may. absurd (c.if-not-may_answer.ensures.may_not refl may));
  },
  refl,
)

pub returns-then-lacks_bytes-clause-idle : goal.returns-then-lacks_bytes-clause-idle
returns-then-lacks_bytes-clause-idle g c _ =
    let a : Connection = c.args.self.now in
    let less : length a.input < a.needed = c.if-lacks_bytes.ensures.yes refl in
    (record { none = λ _. unfinished_now g.S.Service.is_unfinished a.input a.needed c.requires less; change = inl (refl, λ _. less) }, refl)

pub returns-in-Unfinished-clause-idle : goal.returns-in-Unfinished-clause-idle
returns-in-Unfinished-clause-idle g c _ =
    let unfinished = g.S.Service.is_unfinished in
    let a : Connection = c.args.self.now in
    let inside = c.self.inside in
    let needed = c.in-Unfinished.needed in
    let may = c.if-not-may_answer.ensures.may refl in
    let found = c.in-Unfinished.ensures.answer in
    let rest : take (length c.deref.result.now - inside.done) (drop inside.done c.deref.result.now) ≡ a.input =
    take_rest c.deref.result.now inside.done ∙ ap (drop inside.done) c.deref.ensures.value ∙ ap (λ (t : Connection). t.input) c.self.view_is in
    let stays = subst (λ (t : List ℕ). StaysUnfinished unfinished t needed) rest found.1 in
    let less : length a.input < needed = subst (λ (t : List ℕ). length t < needed) rest found.0 in
    let stage : inside.stage ≡ Stages.Logged = ap (λ (t : Connection). t.stage) c.self.view_is ∙ may.logged in
    let no_line : (l : List ℕ) → kept inside.stage l ≡ [] = λ l. ap (λ (s : Stage). kept s l) stage in
    let output : c.answer.new.out.items ≡ a.output = found.2 ∙ sym may.drained in
    let line : kept inside.stage c.answer.new.line.items ≡ a.line =
    no_line c.answer.new.line.items ∙ sym (no_line inside.line.items) ∙ ap (λ (t : Connection). t.line) c.self.view_is in (
      record {
        none = λ _. unfinished_now unfinished a.input needed stays less;
        change = inr (
          (
            may,
            less,
            ap (λ (t : Connection). record t {
              output = c.answer.new.out.items;
              line = kept inside.stage c.answer.new.line.items;
              needed = needed;
            }) c.self.view_is
                ∙ ap (λ (t : List ℕ). record a { output = t; line = kept inside.stage c.answer.new.line.items; needed = needed }) output
                ∙ ap (λ (t : List ℕ). record a { line = t; needed = needed }) line,
          ),
          stays,
        );
      },
      found.3,
    )
