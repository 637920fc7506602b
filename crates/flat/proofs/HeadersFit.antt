-- What C gets wrong is refused and never mended: where a field stands for nothing, the fields do not fit (6; 11 by apply).
use mathlib.Core.Path.{◌≡◌}
use mathlib.Core.Bool.{Bool, true, false, ◌&&◌, and-false}
use lib.Dec.{leb}
use Rattle.fast_channel.specs.FastChannel.{message_fits}
use Rattle.header.specs.Header.{fields_fit, header_fits}
use Rattle.flat.specs.Messages.{numbers_fit}
use Rattle.flat.specs.Headers.{flags_fit, sent_message, fields_where, fields_of, header_of}
use Rattle.flat.specs.declared.headers.FlatFields.{FlatFields}
use Rattle.flat.specs.declared.headers.FlatHeader.{FlatHeader}

module _ (others : Bool) (flat : FlatFields) (misfit : (others && flags_fit flat && numbers_fit flat.message) ≡ false) where
  no_message_lem : message_fits (sent_message others flat) ≡ false
  unfolding sent_message
  no_message_lem = rw misfit

  pub misfit_refused : fields_fit (fields_where others flat) ≡ false
  unfolding fields_fit fields_where
  misfit_refused = rw (no_message_lem, and-false)

-- a bool that is neither 0 nor 1, or a message that is none, in a frame
pub fields_misfit : (flat : FlatFields) → (flags_fit flat && numbers_fit flat.message) ≡ false → fields_fit (fields_of flat) ≡ false
fields_misfit flat e = misfit_refused true flat e

-- and in a bare header or one given to apply; there a kind above 3 too
pub header_misfit : (flat : FlatHeader) → (leb flat.kind 3 && flags_fit flat.fields && numbers_fit flat.fields.message) ≡ false
    → header_fits (header_of flat) ≡ false
header_misfit flat e = rw (misfit_refused (leb flat.kind 3) flat.fields e, and-false)
