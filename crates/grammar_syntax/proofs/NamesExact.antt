-- A Path and a Uid, at the front of a list and as a whole one. They nest nothing, so all levels are alike.
use Rattle.std.proofs.Common.{◌-◌, Result, List, length}
use Rattle.grammar_syntax.specs.declared.token.Token.{Token}
use Rattle.grammar_syntax.specs.declared.fault.StopCause.{StopCause}
use Rattle.grammar_syntax.specs.declared.name_trees.PathTree.{PathTree}
use Rattle.grammar_syntax.specs.declared.name_trees.UidTree.{UidTree}
use Rattle.grammar_syntax.specs.Grammar as g
use Rattle.grammar_syntax.specs.Parsing as r
use Rattle.grammar_syntax.specs.ParsesTo.{ParsesTo}
use Rattle.grammar_syntax.specs.ParseResults.{HasOneTree, HasOneAnswer, Reads, ReadsFront, whole_of}
use Rattle.grammar_syntax.proofs.Rules.{Levels}
use Rattle.grammar_syntax.proofs.NameRules.{after_name, path_rule, alive_path, uid_rule, alive_uid}
use Rattle.grammar_syntax.proofs.NamesFirm.{firm_path, firm_uid}
use Rattle.grammar_syntax.proofs.Whole as whole
use Rattle.grammar_syntax.proofs.Whole.{Limited}

abbrev level : Levels
level = record { Deeper = Unit {0}; Equal = Unit {0} }

flat_path : Limited g.path g.path r.path
flat_path = whole.flat g.path r.path after_name level (path_rule level) tt alive_path tt

pub path_front : (ts rest : List Token) (x : Result PathTree StopCause) → ParsesTo (r.path ts) x rest → ReadsFront g.path ts x rest
path_front = whole.front_read g.path g.path r.path after_name level (path_rule level) tt alive_path flat_path (firm_path level)

flat_uid : Limited g.uid g.uid r.uid
flat_uid = whole.flat g.uid r.uid after_name level (uid_rule level) tt alive_uid tt

pub uid_front : (ts rest : List Token) (x : Result UidTree StopCause) → ParsesTo (r.uid ts) x rest → ReadsFront g.uid ts x rest
uid_front = whole.front_read g.uid g.uid r.uid after_name level (uid_rule level) tt alive_uid flat_uid (firm_uid level)

-- ---- a whole list

pub one_uid : HasOneTree g.uid
one_uid = whole.one_tree g.uid r.uid after_name level (uid_rule level) tt alive_uid

pub uid_answer : HasOneAnswer g.uid
uid_answer = whole.one_answer g.uid g.uid r.uid after_name level (uid_rule level) tt alive_uid flat_uid

pub uid_answered : (ts rest : List Token) (read : Result UidTree StopCause) → ParsesTo (r.uid ts) read rest
    → Reads g.uid ts (whole_of read (length ts - length rest) rest)
uid_answered = whole.answered_whole g.uid g.uid r.uid after_name level (uid_rule level) tt alive_uid flat_uid
