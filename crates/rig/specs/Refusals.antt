-- The refusals of a rig, each with its layer, number and place.
use Rattle.told.specs.declared.Told.{Told}
use Rattle.rig.specs.declared.refusals.Refusal.{Refusal}
use Rattle.rig.specs.declared.refusals.Refusal.TheVariants.{Beyond, WaveOpen, Misfit, PageFull, BlockLength}

abbrev pub row : Refusal → Told
row Beyond = record { layer = 3; number = 17; place = 0 }
row WaveOpen = record { layer = 3; number = 18; place = 0 }
row Misfit = record { layer = 3; number = 19; place = 0 }
row PageFull = record { layer = 3; number = 20; place = 0 }
row BlockLength = record { layer = 3; number = 21; place = 0 }
