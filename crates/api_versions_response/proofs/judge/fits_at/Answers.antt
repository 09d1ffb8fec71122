-- The first three cells of a row.
use Rattle.api_versions_response.proofs.Fits.{row_told}
use Rattle.api_versions_response.proofs.judge.fits_at.Goals as goal

pub returns : goal.returns
returns c = row_told _ _ c.requires _ c.row_fits.ensures
