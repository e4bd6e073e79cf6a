-- A READ that begins anew has committed nothing.
use Rattle.std.specs.Prelude.{◌≡◌, Option, None, refl}
use Rattle.operate.specs.Vocabulary.{Kind, Access, Heap, ReadAt, ReadsAlong}
use Rattle.operate.specs.Beneath.ctrie_base.specs.declared.kinds.Kind.TheVariants as kind
use Rattle.operate.specs.Beneath.machine_model.specs.declared.reading.Read.{Read}
use Rattle.operate.specs.Beneath.gcas.specs.declared.read.ReadAt.TheVariants as at
use Rattle.operate.specs.Steps.{CommitsNoMore}

pub begins : (place : ReadAt) → CommitsNoMore place at.Main
begins place kind.Begin h = refl
begins place kind.ReadRoot h = refl
begins place kind.SwapRoot h = refl
begins place kind.ReadMain h = refl
begins place kind.SwapMain h = refl
begins place kind.ReadPrev h = refl
begins place kind.SwapPrev h = refl
begins place kind.Look h = refl
begins place kind.Make h = refl
begins place kind.End h = refl
begins place kind.ScanPin h = refl
begins place kind.Advance h = refl
begins place kind.FreeOne h = refl

-- where no READ was taken by a step, the code's READ may begin anew behind it
pub anew : (heap : Heap) (access : Access) (reads : Option Read) (k : Kind) (place place' : ReadAt) → reads ≡ None →
    CommitsNoMore place place' → ReadsAlong heap access reads k place → ReadsAlong heap access reads k place'
anew heap access reads k place place' none more along = rw none (more k (rw none at along))
