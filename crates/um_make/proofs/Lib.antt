mod Parts
mod Places
mod SizeNumerals
