-- Defines a run of `load`, which puts files of policies and entities into a site.
-- Source: docs/operating.md.
-- Rules of this product: before anything is checked, all files are read: the schema, then, if they are named, the
-- initial state, the policies and the entities; the initial site is created as in `serve`; the state of the site after
-- the puts is printed, unless there is an error.
use Rattle.std.specs.Prelude.{◌⊎◌, ℕ, List, Option, None, Some, option_map}
use Rattle.site_loading.specs.site.SiteViews.{SiteView, schema_of, store_in}
use Rattle.site_loading.specs.Loads as loads
use Rattle.program_lines.specs.declared.line.LoadOptions.{LoadOptions}
use Rattle.program.specs.InitialSites.{IsInitialSite, IsNotCreated}
use Rattle.explanations.specs.Files.{Files}
use Rattle.program.specs.Courses.{Course, Reads, ReadsIfNamed}
use Rattle.program.specs.ExplainOption.{file_with_content, policies_of, IsLineOrErrorExplained}
use Rattle.program.specs.ExplainCommand.{file_named}

-- `load_files options schema policies entities` are files with the names in `options` and these contents; absent
-- policies are an empty file. If an error occurs after the initial site is created, `--explain` explains what is
-- rejected in these files.
abbrev pub load_files : LoadOptions → List ℕ → Option (List ℕ) → Option (List ℕ) → Files
load_files options schema policies entities = record {
  schema = Some (file_with_content options.schema.now schema);
  policies = policies_of (file_named (option_map (λ s. s.now) options.policies) policies);
  entities = file_named (option_map (λ s. s.now) options.entities) entities;
  request = None;
}

module _ {L G N : Type 0} where
  -- `IsPutOrRefused options site schema policies entities`: the state of `site` after the puts of `policies` and
  -- `entities` is printed; or it is reported that a file does not parse, that a put is rejected, or that memory ran
  -- out. After an error, `--explain` explains what is rejected in the `load_files` or, if nothing is rejected there,
  -- the code of the error.
  abbrev pub IsPutOrRefused : LoadOptions → SiteView → List ℕ → Option (List ℕ) → Option (List ℕ) → Course L G N
  IsPutOrRefused options site schema policies entities =
      IsLineOrErrorExplained options.explain (load_files options schema policies entities)
      (loads.IsLoadedState (schema_of site) site.name (store_in site) policies entities)
      (loads.IsRefused (schema_of site) site.name (store_in site) policies entities)

  -- `IsLoadedOrRefused options schema state policies entities`: the initial site of `schema` and `state` is created,
  -- and `IsPutOrRefused` holds of it; or, whatever `policies` and `entities` contain, an error is reported: that of
  -- `schema` or `state`, or out of memory. With `--explain` it is explained too.
  abbrev pub IsLoadedOrRefused : LoadOptions → List ℕ → Option (List ℕ) → Option (List ℕ) → Option (List ℕ)
      → Course L G N
  IsLoadedOrRefused options schema state policies entities events end =
      ((site : SiteView) × IsInitialSite schema options.site state site
      × IsPutOrRefused options site schema policies entities events end)
      ⊎ IsNotCreated options.explain options.schema.now (option_map (λ s. s.now) options.state) schema state events end

  -- `IsLoadRun options`: the schema's file is read, then the files of the state, the policies and the entities, each
  -- if `options` name it; then `IsLoadedOrRefused` holds of their contents. A failed read is reported and ends the run.
  abbrev pub IsLoadRun : LoadOptions → Course L G N
  IsLoadRun options =
      Reads options.schema.now (λ schema.
      ReadsIfNamed (option_map (λ s. s.now) options.state) (λ state.
      ReadsIfNamed (option_map (λ s. s.now) options.policies) (λ policies.
      ReadsIfNamed (option_map (λ s. s.now) options.entities) (λ entities.
      IsLoadedOrRefused options schema state policies entities))))
