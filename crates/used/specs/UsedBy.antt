-- The bytes that a listing uses, as ranges (document 02, note 13): of each read of document 01's sections, records, lists and rows, shown or
-- not.
use Rattle.std.specs.Prelude.{List}
use Rattle.pointers.specs.Tables.{Tables}
use Rattle.listing.specs.DecodeListing.{decode_listing}
use Rattle.ranges.specs.Range.{Range}
use Rattle.ranges.specs.Runs.{merged}
use Rattle.used.specs.Used.{used, file_lengths}

-- In the order in which the plain listing's definition reads them. Line I is made of the image info, of which no file has a byte.
unfoldable pub used_by : Tables → List Range
used_by t = used t (decode_listing t.sections)

-- Ascending, and merged where they touch.
unfoldable pub ranges_used : Tables → List Range
ranges_used t = merged (file_lengths t.files) (used_by t)
