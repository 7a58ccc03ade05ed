use Rattle.pipeline_fill.proofs.Rooms.{room_by_names, no_room}
use Rattle.pipeline_fill.proofs.sizes.has_room.Goals as goal

pub returns-then-fits : goal.returns-then-fits
returns-then-fits c = λ vars step sized.
    room_by_names c.args.limits.now vars step c.args.detections.now _ _ (c.fits.ensures _ _ _ _ sized) c.if-fits.true c.detections_legal.ensures

pub returns-else-fits : goal.returns-else-fits
returns-else-fits c = λ vars step sized. no_room c.args.limits.now vars step c.args.detections.now _ (c.fits.ensures _ _ _ _ sized) c.if-fits.false
