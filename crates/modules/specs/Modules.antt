-- Modules: a document is a list of documents of the kind below, and a patch changes one of them.
use Rattle.std.specs.Prelude.{◌≡◌, ◌*◌, Bool, false, cond, ◌&&◌, List, length, replicate, Some, None, Err, sum_by, Option, Result, ◌==◌, nat_lt, slice_set}
use Rattle.std.specs.List.{AllByRecursion, slice_get, flat_map, list_all}
use Rattle.kinds.specs.Theory.{Theory}
use Rattle.kinds.specs.Parts.{both, part}
use Rattle.kinds.specs.Slots.{passing}
use Rattle.modules.specs.declared.Module.{Module}
use Rattle.modules.specs.declared.InModule.{InModule}
use Rattle.modules.specs.declared.ModuleFault.TheVariants.{the_data as ModuleFault, NoModule, Inside}

-- two numbers are of one module
abbrev pub same_module : Module → Module → Bool
same_module m n = m.0 == n.0

-- a patch of the module m
abbrev pub within : {P : Type 0} → Module → P → InModule P
within m p = record { «module» = m; patch = p }

-- what the document of a module is taken to, or a fault where the module is not there
abbrev pub there : {D E F : Type 0} → Module → (D → Result E (ModuleFault F)) → Option D → Result E (ModuleFault F)
there m f None = Err (NoModule m)
there m f (Some x) = f x

module _ {P F : Type 0} (T : Theory P F) where
  -- the documents with the one at m changed
  abbrev pub module_apply : InModule P → List T.Doc → Result (List T.Doc) (ModuleFault F)
  module_apply c d = there c.«module» (λ x. part (slice_set d c.«module».0) (Inside c.«module») (T.apply c.patch x)) (slice_get d c.«module».0)

  -- one module commutes as the kind below does, different ones always, and neither is changed
  abbrev pub module_commute : InModule P → InModule P → Option (InModule P × InModule P)
  module_commute c d = cond (same_module c.«module» d.«module»)
      (both (within d.«module») (within c.«module») (T.commute c.patch d.patch))
      (Some (d, c))

  -- The kind, of three modules.
  abbrev pub modules : Theory (InModule P) (ModuleFault F)
  modules = record {
    Doc = List T.Doc;
    fresh = replicate 3 T.fresh;
    blank = λ d. (length d == 3) && list_all T.blank d;
    size = sum_by T.size;
    apply = module_apply;
    invert = λ c. within c.«module» (T.invert c.patch);
    commute = module_commute;
    growth = λ c. T.growth c.patch;
    written = λ c. nat_lt c.«module».0 3 && T.written c.patch;
    far = λ c d. cond (same_module c.«module» d.«module») (T.far c.patch d.patch) false;
    full = λ c d. passing (T.full c.patch) (slice_get d c.«module».0);
    fits = λ d. (length d ≡ 3) × AllByRecursion T.fits d;
    width = 3 * T.width;
    encode = flat_map T.encode;
  }
