use Rattle.std.proofs.Common.{string_bytes, ◌∙◌, ◌++◌, ap}
use Rattle.std.proofs.lemmas.Result.{IfOk-weaker}
use Rattle.type_checker.specs.schema.Views.{schema_view}
use Rattle.type_checker.specs.FromSchemas.{attributes_of}
use Rattle.fault_places.specs.Words.{which_words}
use Rattle.fault_places.proofs.Appending.{appended_last}
use Rattle.fault_places.proofs.NameLists.{entity_names, declared_record_names, built_record_names, leaf_names, set_names}
use Rattle.fault_places.proofs.details.push_attributes.Goals as goal

pub returns-in-Entity : goal.returns-in-Entity
returns-in-Entity c =
    let names = entity_names (attributes_of (schema_view c.args.schema.now)) c.args.owner.now c.in-Leaf.leaf c.in-Entity.name c.attributes_of.result.now
    c.in-Leaf.is c.in-Entity.is c.attributes_of.ensures in
    IfOk-weaker c.push_list.result _ _ (λ _ h. h ∙ ap (λ ns. string_bytes c.args.out.now ++ which_words ns) names) c.push_list.ensures

pub returns-in_default-leaf : goal.returns-in_default-leaf
returns-in_default-leaf c =
    let none = leaf_names (attributes_of (schema_view c.args.schema.now)) c.args.owner.now c.in-Leaf.leaf c.in-Leaf.is c.in_default-leaf.not-Entity in
    appended_last c.push_str.result (string_bytes c.args.out.now) _ (string_bytes c.push_str.new.self) c.push_str.ensures.bytes
    (λ e. e ∙ ap (λ ns. string_bytes c.args.out.now ++ which_words ns) none)

pub returns-in-DeclaredRecord : goal.returns-in-DeclaredRecord
returns-in-DeclaredRecord c =
    let names = declared_record_names (attributes_of (schema_view c.args.schema.now)) c.args.owner.now c.in-DeclaredRecord.fields c.in-DeclaredRecord.is in
    IfOk-weaker c.push_list-in-DeclaredRecord.result _ _ (λ _ h. h ∙ ap (λ ns. string_bytes c.args.out.now ++ which_words ns) names)
    c.push_list-in-DeclaredRecord.ensures

pub returns-in-Record : goal.returns-in-Record
returns-in-Record c =
    let names = built_record_names (attributes_of (schema_view c.args.schema.now)) c.args.owner.now c.in-Record.fields c.as_slice.result.now c.in-Record.is
    (c.as_slice.ensures ∙ c.deref.ensures) in
    IfOk-weaker c.push_list-in-Record.result _ _ (λ _ h. h ∙ ap (λ ns. string_bytes c.args.out.now ++ which_words ns) names) c.push_list-in-Record.ensures

pub returns-in_default : goal.returns-in_default
returns-in_default c =
    let none = set_names (attributes_of (schema_view c.args.schema.now)) c.args.owner.now c.in_default.not-Leaf c.in_default.not-DeclaredRecord
    c.in_default.not-Record in
    appended_last c.push_str-in_default.result (string_bytes c.args.out.now) _ (string_bytes c.push_str-in_default.new.self) c.push_str-in_default.ensures.bytes
    (λ e. e ∙ ap (λ ns. string_bytes c.args.out.now ++ which_words ns) none)
