use Rattle.std.proofs.Common.{◌≡◌, ◌⊎◌, ap, sym, subst, ◌∙◌}
use Rattle.grammar_desugaring.specs.grammar_syntax.declared.fault.SyntaxFault.TheVariants as syntax
use Rattle.grammar_desugaring.specs.grammar_syntax.ParseResults.{IsRefusedWithin}
use Rattle.grammar_parsing.specs.Grammar as grammar
use Rattle.policy_grammar.specs.Texts.{most_policy_bytes, IsUnread}
use Rattle.plain.specs.AllocationErrors.{OrNoMemory}
use Rattle.policy_grammar.specs.declared.fault.ReadFault.TheVariants as fault
use Rattle.policy_grammar.specs.inner.TreeParts.{refusal_of}
use Rattle.policy_grammar.proofs.Unread.{unread}
use Rattle.policy_grammar.proofs.trees.uid_tree.Goals as goal

pub returns-clause-err : goal.returns-clause-err
returns-clause-err c =
    subst (OrNoMemory fault.NoMemory (IsUnread grammar.uid grammar.uid most_policy_bytes c.args.text.now))
    (sym (c.refusal.ensures ∙ ap (λ ts. refusal_of c.args.text.now ts c.in-Err.fault) c.deref-in-Err.ensures.value))
    (unread grammar.uid grammar.uid most_policy_bytes c.args.text.now c.in_ok-tokens.tokens.items c.in_ok-tokens.ensures.ok c.in-Err.fault
    (subst (λ ts. (c.in-Err.fault ≡ syntax.NoMemory) ⊎ IsRefusedWithin grammar.uid grammar.uid ts c.in-Err.fault) c.deref.ensures.value c.in-Err.ensures.reads))
