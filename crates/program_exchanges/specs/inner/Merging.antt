-- Defines the merge of two messages under a parsed schema.
use Rattle.std.specs.Prelude.{◌≡◌, ℕ, List, Result, Ok}
use Rattle.schema_decisions.specs.answer_lines.declared.refusal.Refusal.{Refusal}
use Rattle.sync_messages.specs.schema.Schemas.{StatedSchema}
use Rattle.stamped_store.specs.Store.{Store, IsStoreJoin, abstract_store}
use Rattle.sync_messages.specs.sync_format.Messages.{state_text}
use Rattle.program_exchanges.specs.Messages.{IsReadBack}
use Rattle.program_exchanges.specs.Merges.{IsStoreOfBoth}
use Rattle.program_exchanges.specs.declared.joining.Joined.{Joined}

-- `IsJoinWith store other both` holds if `other` is not an error, and `both` is the join of `store` and the store of
-- `other`.
pub record IsJoinWith (store : Store) (other : Result Joined Refusal) (both : Store) : Type 0 where
  pub joined : Joined
  pub other_is : other ≡ Ok joined
  pub join : IsStoreJoin store (abstract_store joined.store) both

-- `IsMergedUnder s f g text` holds if `f` and `g` are messages of the schema `s`, and `text` is the state of the store
-- of their updates. `text` is parsed again as exactly the updates of that store.
pub record IsMergedUnder (s : StatedSchema) (f g text : List ℕ) : Type 0 where
  pub store : Store
  pub both : IsStoreOfBoth s f g store
  pub text_is : text ≡ state_text s.label store
  pub reads_back : IsReadBack s store text
